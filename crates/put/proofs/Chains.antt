-- Writers, one after the other.
use Rattle.std.proofs.Common.{◌≡◌, ℕ, zero, suc, ◌+◌, ◌*◌, ◌/◌, ◌%◌, ◌^◌, ◌<◌, List, [], ◌∷◌, ◌++◌, length, sym, refl, ap, ◌∙◌, subst, mul_assoc, arith}
use native.Mathlib.Nat.{pow-succ', mod-add-div}
use Rattle.std.proofs.lemmas.List.{length-append}
use Rattle.wire.specs.Numbers.{digits, bytes_of}
use Rattle.wire.specs.declared.order.ByteOrder.TheVariants.{Little}
use Rattle.put.specs.Overlay.{overlay, place}
use Rattle.put.specs.declared.writer.Writer.{Writer}
use Rattle.put.specs.Appends.{Appends, Goes}
use Rattle.put.specs.Puts.{Puts}
use Rattle.put.proofs.Overlays.{overlay_behind, overlay-before, overlay-none, overlay-place, length-overlay}

-- a writer and the next one behind it
pub puts_then : {x y o p q : List ℕ} {a r s : ℕ} → length o < 2 ^ 64 → Puts x o a r p → Puts y p r s q → Puts (x ++ y) o a s q
puts_then {x} {y} {o} {p} {q} {a} {r} {s} h one two = record {
  goes = omega (arith, one.goes, two.goes, length-append x y);
  leaves =
      two.leaves
      ∙ ((λ i. overlay (one.leaves i) (one.goes i) y)
      ∙ (overlay-place (overlay o a x) (a + length x) y (omega (arith, length-overlay o a x)) ∙ overlay_behind o a x y));
}

-- a writer, and another one before it that leaves just as much space
pub puts_before : {x y o p q : List ℕ} {a b r s : ℕ} → length o < 2 ^ 64 → b ≡ place (a + length x) → Puts y o b r p → Puts x p a s q → Puts (x ++ y) o a r q
puts_before {x} {y} {o} {p} {q} {a} {b} {r} {s} h e two one = record {
  goes = omega (arith, two.goes, length-append x y);
  leaves =
      one.leaves
      ∙ (ap (λ z. overlay z a x) (two.leaves ∙ (ap (λ n. overlay o n y) e ∙ overlay-place o (a + length x) y h))
      ∙ overlay-before o a x y);
}

-- nothing is put
pub puts_none : (o : List ℕ) (a : ℕ) → a < 2 ^ 64 → Puts [] o a a o
puts_none o a h = record { goes = omega arith; leaves = sym (overlay-none o a) }

-- the same, of what a writer does to itself
pub appends_then : {x y : List ℕ} {u v w : Writer} → Appends x u v → Appends y v w → Appends (x ++ y) u w
appends_then {x} {y} {u} {v} {w} one two = record {
  same_reference = two.same_reference ∙ one.same_reference;
  puts = puts_then u.room one.puts two.puts;
}

-- `x` is put at the place `a` of `u` after `y`, for which that place was left; then the writer goes back to where `y` ends
pub appends_before : {x y : List ℕ} {u v w v' w' z : Writer} {a b e : ℕ} → a ≡ u.at → b ≡ place (a + length x) → Goes b u v → Appends y v w → e ≡ w.at → Goes a w v' → Appends x v' w' → Goes e w' z → Appends (x ++ y) u z
appends_before {x} {y} {u} {v} {w} {v'} {w'} {z} {a} {b} {e} from left leave two ends back one on = record {
  same_reference = on.same_reference ∙ (one.same_reference ∙ (back.same_reference ∙ (two.same_reference ∙ leave.same_reference)));
  puts =
      let one' : Puts x w.out.now u.at w'.at w'.out.now = record {
        goes = one.puts.goes ∙ (λ i. place ((back.place ∙ from) i + length x));
        leaves = one.puts.leaves ∙ (λ i. overlay (back.leaves i) ((back.place ∙ from) i) x);
      } in
      let two' : Puts y u.out.now b w.at w.out.now = record {
        goes = two.puts.goes ∙ ap (λ n. place (n + length y)) leave.place;
        leaves = two.puts.leaves ∙ (λ i. overlay (leave.leaves i) (leave.place i) y);
      } in
      let both = puts_before u.room (left ∙ ap (λ n. place (n + length x)) from) two' one' in
      record { goes = (on.place ∙ ends) ∙ both.goes; leaves = on.leaves ∙ both.leaves };
}

pub appends_none : (w : Writer) → Appends [] w w
appends_none w = record { same_reference = refl; puts = puts_none w.out.now w.at w.counts }

pub appends_same : {x y : List ℕ} {u v : Writer} → x ≡ y → Appends x u v → Appends y u v
appends_same {x} {y} {u} {v} e w = subst (λ z. Appends z u v) e w

digits_long : (w n : ℕ) → length (digits w n) ≡ w
digits_long zero n = refl
digits_long (suc w) n = ap suc (digits_long w (n / 256))

-- a number has as many bytes as it is wide
pub bytes-long : (w n : ℕ) → length (bytes_of Little w n) ≡ w
unfolding bytes_of
bytes-long w n = digits_long w n

digits_low : (w q n : ℕ) → digits w (n + 256 ^ w * q) ≡ digits w n
digits_low zero q n = refl
digits_low (suc w) q n =
    let more : 256 ^ suc w * q ≡ 256 * (256 ^ w * q) = ap (λ k. k * q) (pow-succ' 256 w) ∙ mul_assoc 256 (256 ^ w) q in
    let low : (n + 256 ^ suc w * q) % 256 ≡ n % 256 = omega (arith, more) in
    let high : (n + 256 ^ suc w * q) / 256 ≡ n / 256 + 256 ^ w * q = omega (arith, more) in
    (λ i. low i ∷ digits w (high i)) ∙ ap (λ t. (n % 256) ∷ t) (digits_low w q (n / 256))

-- only as many of its low bits count
pub bytes_low : (w n : ℕ) → bytes_of Little w (n % 256 ^ w) ≡ bytes_of Little w n
unfolding bytes_of
bytes_low w n =
    sym (ap (digits w) (sym (mod-add-div n (256 ^ w))) ∙ digits_low w (n / 256 ^ w) (n % 256 ^ w))
