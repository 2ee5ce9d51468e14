-- The pieces of a section, one after the other.
use Rattle.std.proofs.Common.{◌≡◌, ℕ, suc, ◌+◌, ◌<◌, ◌≤◌, true, false, eqb, leb, List, [], ◌∷◌, length, drop, sym, refl, ap, ◌∙◌, ⊎_elim, arith}
use Rattle.std.proofs.lemmas.List.{length-drop, drop-drop}
use Rattle.std.proofs.lemmas.Bool.{cases_Bool, cases_lt, cond-true, cond-false, le-leb, lt-leb}
use Rattle.text.specs.Strings.{before_nul}
use Rattle.mappings.specs.MetaInfo.{Piece, longer, pieces, pieces_from}

abbrev pub piece : ℕ → List ℕ → Piece
piece at bytes = record { at = at; bytes = bytes }

-- the first piece is the bytes before the first NUL, and the others follow that NUL
split_last : (at : ℕ) (t : List ℕ) → length t ≤ length (before_nul t) → pieces at t ≡ piece at (before_nul t) ∷ []
unfolding pieces before_nul
split_last at [] h = refl
split_last at (b ∷ bs) h = ⊎_elim
    (λ (e : eqb b 0 ≡ true). let z : length (b ∷ bs) ≤ 0 = rw e at h in absurd (omega arith))
    (λ (e : eqb b 0 ≡ false).
    let z : length (b ∷ bs) ≤ length (b ∷ before_nul bs) = rw e at h in
    rw e (ap (longer at b) (split_last (suc at) bs (omega arith))))
    (cases_Bool (eqb b 0))

pub split_more : (at : ℕ) (t : List ℕ) → length (before_nul t) < length t → pieces at t ≡ piece at (before_nul t) ∷ pieces (suc (at + length (before_nul t))) (drop (suc (length (before_nul t))) t)
unfolding pieces before_nul
split_more at [] h = absurd (omega arith)
split_more at (b ∷ bs) h = ⊎_elim
    (λ (e : eqb b 0 ≡ true).
    let q : suc at ≡ suc (at + 0) = omega arith in
    rw e (ap (λ n. piece at [] ∷ pieces n bs) q))
    (λ (e : eqb b 0 ≡ false).
    let z : length (b ∷ before_nul bs) < length (b ∷ bs) = rw e at h in
    let q : suc (suc at + length (before_nul bs)) ≡ suc (at + suc (length (before_nul bs))) = omega arith in
    rw e (ap (longer at b) (split_more (suc at) bs (omega arith))
    ∙ ap (λ n. piece at (b ∷ before_nul bs) ∷ pieces n (drop (suc (length (before_nul bs))) bs)) q))
    (cases_Bool (eqb b 0))

pub pieces-past : (s : List ℕ) (at : ℕ) → length s < at → pieces_from s at ≡ []
pieces-past s at h = cond-false (leb at (length s)) _ _ (lt-leb at (length s) h)

pub pieces_here : (s : List ℕ) (at : ℕ) → at ≤ length s → pieces_from s at ≡ pieces at (drop at s)
pieces_here s at h = cond-true (leb at (length s)) _ _ (le-leb at (length s) h)

-- At an offset within a section, or at its end, begins a piece; the next begins behind the NUL that ends it.
pub next_piece : (s : List ℕ) (at : ℕ) → at ≤ length s → pieces_from s at ≡ piece at (before_nul (drop at s)) ∷ pieces_from s (at + length (before_nul (drop at s)) + 1)
next_piece s at h = pieces_here s at h ∙ ⊎_elim more last (cases_lt (length (before_nul (drop at s))) (length (drop at s)))
  where
    more : length (before_nul (drop at s)) < length (drop at s) → pieces at (drop at s) ≡ piece at (before_nul (drop at s)) ∷ pieces_from s (at + length (before_nul (drop at s)) + 1)
    more l =
        let k : ℕ = length (before_nul (drop at s)) in
        let here : at + k + 1 ≤ length s = omega (arith, l, length-drop at s) in
        let p : suc (at + k) ≡ at + k + 1 = omega arith in
        let q : at + suc k ≡ at + k + 1 = omega arith in
        split_more at (drop at s) l
        ∙ ap (λ t. piece at (before_nul (drop at s)) ∷ t)
        (ap (λ m. pieces m (drop (suc k) (drop at s))) p ∙ ap (pieces (at + k + 1)) (drop-drop (suc k) at s ∙ ap (λ m. drop m s) q)
        ∙ sym (pieces_here s (at + k + 1) here))

    last : length (drop at s) ≤ length (before_nul (drop at s)) → pieces at (drop at s) ≡ piece at (before_nul (drop at s)) ∷ pieces_from s (at + length (before_nul (drop at s)) + 1)
    last l =
        let k : ℕ = length (before_nul (drop at s)) in
        let past : length s < at + k + 1 = omega (arith, l, length-drop at s) in
        split_last at (drop at s) l ∙ ap (λ t. piece at (before_nul (drop at s)) ∷ t) (sym (pieces-past s (at + k + 1) past))
