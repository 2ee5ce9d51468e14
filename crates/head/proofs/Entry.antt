-- The entry of a fact: its bytes are written first, and then what stands before them.
use Rattle.std.proofs.Common.{◌≡◌, ℕ, ◌+◌, ◌-◌, ◌^◌, ◌<◌, Bool, true, false, [], ◌++◌, length, Some, None, Ok, Err, sym, refl, ap, ◌∙◌, subst, arith}
use Rattle.std.proofs.lemmas.List.{append_assoc, length-append}
use Rattle.wire.proofs.Digits.{length-bytes_of}
use Rattle.put.specs.Overlay.{place}
use Rattle.put.specs.declared.writer.Writer.{Writer}
use Rattle.put.specs.Appends.{Appends, Goes}
use Rattle.put.proofs.Chains.{appends_before, appends_then, appends_same}
use Rattle.put_facts.specs.Writes.{in_bytes, Writes}
use Rattle.facts.specs.declared.carried.Carried.{Carried}
use Rattle.facts.specs.Facts.{Fact, number, write}
use Rattle.facts.specs.Head.{Answer, framed, entry}
use Rattle.facts.specs.Written.{u16, u32}
use Rattle.head_laws.proofs.Found.{not_ok, Small}
use Rattle.head.specs.Wrote.{Wrote}
use Rattle.head.proofs.Writes.{appends_nothing, wrote}

-- ---- what an answer was, by what was answered

-- there was no fact, and nothing is written
pub wrote_absent : (f : Carried) (r : Answer) {b e : ℕ} {u v w z : Writer} → Goes b u v → Writes (in_bytes r) v (Ok false) w → e ≡ u.at → Goes e w z → Wrote (entry f r) u (Ok tt) z
wrote_absent f (Ok None) leave w from on = wrote [] refl (appends_nothing leave w.appends from on)
wrote_absent f (Ok (Some x)) leave w from on = let p = w.answers in let z : ◌≡◌ {A = ℕ} 0 1 = cc in absurd (omega arith)
wrote_absent f (Err y) leave w from on = not_ok y false (sym w.answers)

-- a fact that was written
pub record Body (r : Answer) (v w : Writer) : Type 0 where
  pub fact : Fact
  pub is : r ≡ Ok (Some fact)
  pub appends : Appends (write fact) v w
  pub small : length (write fact) < 2 ^ 32

pub body : (r : Answer) {v w : Writer} → Small r → Writes (in_bytes r) v (Ok true) w → Body r v w
body (Ok (Some x)) small w = record { fact = x; is = refl; appends = w.appends; small = small }
body (Ok None) small w = let p = w.answers in let z : ◌≡◌ {A = ℕ} 0 1 = cc in absurd (omega arith)
body (Err y) small w = not_ok y true (sym w.answers)

-- where it ends
pub body_end : {r : Answer} {u v w : Writer} {from end : ℕ} (b : Body r v w) → from < 2 ^ 40 → Goes from u v → end ≡ w.at → end ≡ from + length (write b.fact)
body_end {r} {u} {v} {w} {from} {end} b low leave ends =
    let bytes = write b.fact in
    let goes : w.at ≡ place (v.at + length bytes) = b.appends.puts.goes in
    let place : v.at ≡ from = leave.place in
    omega (arith, b.small)

-- number and length in front of it
pub entry_some : (f : Carried) (r : Answer) (start from end n len : ℕ) {u v w v' one w' z : Writer} → Body r v w → start ≡ u.at → from ≡ start + 6 → from < 2 ^ 40 → Goes from u v → end ≡ w.at → Goes start w v' → n ≡ number f → Appends (u16 n) v' one → len ≡ end - from → Appends (u32 len) one w' → Goes end w' z → Wrote (entry f r) u (Ok tt) z
unfolding framed
entry_some f r start from end n len b at six low leave ends back i first l second on =
    let bytes = write b.fact in
    let so : end ≡ from + length bytes = body_end b low leave ends in
    let size : len ≡ length bytes = omega arith in
    let left : from ≡ place (start + length (u16 n ++ u32 len)) =
    omega (arith, length-append (u16 n) (u32 len), length-bytes_of 2 n, length-bytes_of 4 len) in
    wrote (u16 (number f) ++ (u32 (length bytes) ++ bytes)) (ap (λ (z : Answer). entry f z) b.is)
    (appends_same (append_assoc (u16 n) (u32 len) bytes ∙ (λ j. u16 (i j) ++ (u32 (size j) ++ bytes)))
    (appends_before at left leave b.appends ends back (appends_then first second) on))

-- what was answered, where a test told it
pub answer_is : (r : Answer) {b t : Bool} {v w : Writer} → b ≡ t → Writes (in_bytes r) v (Ok b) w → Writes (in_bytes r) v (Ok t) w
answer_is r {b} {t} {v} {w} e x = subst (λ (z : Bool). Writes (in_bytes r) v (Ok z) w) e x
