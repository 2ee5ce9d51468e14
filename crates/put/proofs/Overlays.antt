-- What one write after another leaves.
use Rattle.std.proofs.Common.{◌≡◌, ℕ, zero, suc, ◌+◌, ◌-◌, ◌^◌, ◌<◌, ◌≤◌, min, List, [], ◌∷◌, ◌++◌, length, take, drop, sym, refl, ap, ◌∙◌, ⊎_elim, arith}
use borrow.Rule.Slice.PartMut.{put_mid}
use Rattle.std.proofs.lemmas.Bool.{cases_lt}
use Rattle.put.specs.Overlay.{overlay, place}

-- at a place that is one further
overlay_suc : (b : ℕ) (o : List ℕ) (a c : ℕ) (x : List ℕ) → c ≡ suc a → overlay (b ∷ o) c x ≡ b ∷ overlay o a x
unfolding overlay
overlay_suc b o a c x e = ap (λ (n : ℕ). overlay (b ∷ o) n x) e

-- one write and the next one behind it
pub overlay_behind : (o : List ℕ) (a : ℕ) (x y : List ℕ) → overlay (overlay o a x) (a + length x) y ≡ overlay o a (x ++ y)
unfolding overlay
overlay_behind [] a x y = refl
overlay_behind (b ∷ o) (suc a) x y =
    overlay_suc b (overlay o a x) (a + length x) (suc a + length x) y (omega arith) ∙ ap (λ (z : List ℕ). b ∷ z) (overlay_behind o a x y)
overlay_behind (b ∷ o) zero [] y = refl
overlay_behind (b ∷ o) zero (c ∷ x) y =
    overlay_suc c (overlay o zero x) (zero + length x) (zero + length (c ∷ x)) y (omega arith) ∙ ap (λ (z : List ℕ). c ∷ z) (overlay_behind o zero x y)

-- nothing written
pub overlay-none : (o : List ℕ) (a : ℕ) → overlay o a [] ≡ o
unfolding overlay
overlay-none [] a = refl
overlay-none (b ∷ o) (suc a) = ap (λ (z : List ℕ). b ∷ z) (overlay-none o a)
overlay-none (b ∷ o) zero = refl

-- one write and the next one before it
pub overlay-before : (o : List ℕ) (a : ℕ) (x y : List ℕ) → overlay (overlay o (a + length x) y) a x ≡ overlay o a (x ++ y)
unfolding overlay
overlay-before [] a x y = refl
overlay-before (b ∷ o) (suc a) x y =
    ap (λ (z : List ℕ). overlay z (suc a) x) (overlay_suc b o (a + length x) (suc a + length x) y (omega arith)) ∙ ap (λ (z : List ℕ). b ∷ z) (overlay-before o a x y)
overlay-before (b ∷ o) zero [] y = overlay-none (overlay (b ∷ o) zero y) zero
overlay-before (b ∷ o) zero (c ∷ x) y =
    ap (λ (z : List ℕ). overlay z zero (c ∷ x)) (overlay_suc b o (zero + length x) (zero + length (c ∷ x)) y (omega arith)) ∙ ap (λ (z : List ℕ). c ∷ z) (overlay-before o zero x y)

-- nothing to write into: only the places count
pub overlay-empty : (a : ℕ) (x : List ℕ) → overlay [] a x ≡ []
unfolding overlay
overlay-empty a x = refl

-- past the end
pub overlay_past : (o : List ℕ) (a : ℕ) (x : List ℕ) → length o ≤ a → overlay o a x ≡ o
unfolding overlay
overlay_past [] a x h = refl
overlay_past (b ∷ o) (suc a) x h = ap (λ (z : List ℕ). b ∷ z) (overlay_past o a x (omega arith))
overlay_past (b ∷ o) zero x h = absurd (omega arith)

pub length-overlay : (o : List ℕ) (a : ℕ) (x : List ℕ) → length (overlay o a x) ≡ length o
unfolding overlay
length-overlay [] a x = refl
length-overlay (b ∷ o) (suc a) x = ap suc (length-overlay o a x)
length-overlay (b ∷ o) zero [] = refl
length-overlay (b ∷ o) zero (y ∷ x) = ap suc (length-overlay o zero x)

-- all that fits
pub overlay_front : (o x : List ℕ) → length x ≤ length o → overlay o 0 x ≡ x ++ drop (length x) o
unfolding overlay
overlay_front [] [] h = refl
overlay_front [] (y ∷ x) h = absurd (omega arith)
overlay_front (b ∷ o) [] h = refl
overlay_front (b ∷ o) (y ∷ x) h = ap (λ (z : List ℕ). y ∷ z) (overlay_front o x (omega arith))

-- the part that a write changes: the bytes of `x` up to its end, or up to that of `o`
overlay_least : (o : List ℕ) (a : ℕ) (x : List ℕ) (n : ℕ) → n ≡ min (length x) (length o - a) → take a o ++ (take n x ++ drop n (drop a o)) ≡ overlay o a x
unfolding overlay
overlay_least [] zero x n e = let z : n ≡ 0 = omega arith in rw z
overlay_least [] (suc a) x n e = let z : n ≡ 0 = omega arith in rw z
overlay_least (b ∷ o) (suc a) x n e = ap (λ (z : List ℕ). b ∷ z) (overlay_least o a x n (omega arith))
overlay_least (b ∷ o) zero [] n e = let z : n ≡ 0 = omega arith in rw z
overlay_least (b ∷ o) zero (y ∷ x) n e =
    let z : n ≡ suc (n - 1) = omega arith in
    rw z (ap (λ (z : List ℕ). y ∷ z) (overlay_least o zero x (n - 1) (omega arith)))

-- the same, as a write of `&x[..n]` to `o[a..a + n]` leaves it
pub overlay-part : (o : List ℕ) (a : ℕ) (x ys : List ℕ) (n : ℕ) → n ≡ min (length x) (length o - a) → ys ≡ take n x → put_mid a (a + n - a) o ys ≡ overlay o a x
overlay-part o a x ys n e f =
    let k : a + n - a ≡ n = omega arith in
    (λ i. put_mid a (k i) o (f i)) ∙ overlay_least o a x n e

-- at a place that is counted in 64 bits: a buffer ends before it stands still
pub overlay-place : (o : List ℕ) (a : ℕ) (x : List ℕ) → length o < 2 ^ 64 → overlay o (place a) x ≡ overlay o a x
overlay-place o a x h =
    ⊎_elim
    (λ low. ap (λ (n : ℕ). overlay o n x) (omega arith))
    (λ high. overlay_past o (place a) x (omega arith) ∙ sym (overlay_past o a x (omega arith)))
    (cases_lt a (2 ^ 64))

-- from a place or, where that is past the end, from the end on: nothing is written there
pub overlay_least_place : (o : List ℕ) (a : ℕ) (x : List ℕ) → overlay o (min a (length o)) x ≡ overlay o a x
overlay_least_place o a x =
    ⊎_elim
    (λ low. ap (λ (n : ℕ). overlay o n x) (omega arith))
    (λ high. overlay_past o (min a (length o)) x (omega arith) ∙ sym (overlay_past o a x high))
    (cases_lt a (length o))
