-- What the machine says after some bytes, and so of a whole text.
use Rattle.std.proofs.Common.{◌≡◌, ℕ, zero, suc, ◌+◌, ◌*◌, ◌<◌, true, false, List, [], ◌∷◌, ◌++◌, length, get_or, take, drop, drop-drop, Some, None, Option, IsAscii, sym, refl, ap, ◌∙◌, arith}
use Rattle.std.specs.Simd.{first_chunks}
use Rattle.std.specs.Option.{option_and_then}
use Rattle.std.proofs.lemmas.List.{drop_more, take-append-drop}
use Rattle.std.proofs.lemmas.Bool.{false≢true}
use Rattle.text.proofs.Scalars.{led_ascii}
use Rattle.text.specs.Table.{Range}
use Rattle.text.specs.Pieces.{well_formed}
use Rattle.text.specs.States.{after, after_all, nothing}
use Rattle.text.proofs.Runs.{runs, onward}
use Rattle.text.proofs.Wholes.{well_formed_runs}

-- ---- one byte after another

pub after_first : (w : List Range) (b : ℕ) (bs : List ℕ) (o : Option (List Range)) → after w b ≡ o
    → after_all w (b ∷ bs) ≡ option_and_then (λ v. after_all v bs) o
after_first w b bs o h = ap (option_and_then (λ v. after_all v bs)) h

pub after_append : (w : List Range) (xs ys : List ℕ) → after_all w (xs ++ ys) ≡ option_and_then (λ v. after_all v ys) (after_all w xs)
after_append w [] ys = refl
after_append w (b ∷ xs) ys = by (after w b) refl (λ v. after_append v xs ys)
  where
    by : (o : Option (List Range)) → after w b ≡ o → ((v : List Range) → after_all v (xs ++ ys) ≡ option_and_then (λ u. after_all u ys) (after_all v xs))
        → after_all w (b ∷ xs ++ ys) ≡ option_and_then (λ v. after_all v ys) (after_all w (b ∷ xs))
    by None h more = rw h refl
    by (Some v) h more = rw h (more v)

-- the byte at `i` is the next
pub after_next : (bs : List ℕ) (i : ℕ) (w : List Range) (o : Option (List Range)) → i < length bs → after w (get_or bs i 0) ≡ o
    → after_all w (drop i bs) ≡ option_and_then (λ v. after_all v (drop (i + 1) bs)) o
after_next bs i w o l h = ap (after_all w) (drop_more bs i 0 l) ∙ after_first w (get_or bs i 0) (drop (i + 1) bs) o h

-- ---- a whole text

runs_all : (w : List Range) (bs : List ℕ) → runs w bs ≡ onward (after_all w bs) nothing
runs_all w [] = refl
runs_all w (b ∷ bs) = by (after w b) (λ v. runs_all v bs)
  where
    by : (o : Option (List Range)) → ((v : List Range) → runs v bs ≡ onward (after_all v bs) nothing)
        → onward o (λ v. runs v bs) ≡ onward (option_and_then (λ v. after_all v bs) o) nothing
    by None more = refl
    by (Some v) more = more v

well_formed_after : (bs : List ℕ) (o : Option (List Range)) → after_all [] bs ≡ o → onward o nothing ≡ well_formed bs
well_formed_after bs o h = sym (well_formed_runs bs ∙ runs_all [] bs ∙ ap (λ x. onward x nothing) h)

pub broken : (bs : List ℕ) → after_all [] bs ≡ None → false ≡ well_formed bs
broken bs h = well_formed_after bs None h

pub ended : (bs : List ℕ) (w : List Range) → after_all [] bs ≡ Some w → nothing w ≡ well_formed bs
ended bs w h = well_formed_after bs (Some w) h

-- ---- bytes that are ASCII

none_wanted : (w : List Range) → nothing w ≡ true → w ≡ []
none_wanted [] h = refl
none_wanted (r ∷ rs) h = absurd (false≢true h)

ascii_after : (bs : List ℕ) → IsAscii bs → after_all [] bs ≡ Some []
ascii_after [] a = refl
ascii_after (b ∷ bs) a = after_first [] b bs (Some []) (led_ascii b (omega (arith, a 0))) ∙ ascii_after bs (λ i. a (suc i))

pub ascii_stays : (w : List Range) (bs : List ℕ) → nothing w ≡ true → IsAscii bs → after_all w bs ≡ Some w
ascii_stays w bs h a = rw (none_wanted w h) (ascii_after bs a)

-- ---- blocks of 32

block_at : (k i : ℕ) (xs : List ℕ) → i < k → get_or (first_chunks 32 k xs) i [] ≡ take 32 (drop (i * 32) xs)
block_at zero i xs l = absurd (omega arith)
block_at (suc k) zero xs l = refl
block_at (suc k) (suc i) xs l =
    block_at k i (drop 32 xs) (omega arith) ∙ ap (take 32) (drop-drop (i * 32) 32 xs ∙ ap (λ m. drop m xs) (omega arith))

-- the block at `i` is next
pub block_next : (bs : List ℕ) (blocks : List (List ℕ)) (k i : ℕ) (w : List Range) (o : Option (List Range)) → blocks ≡ first_chunks 32 k bs → i < length blocks → length blocks ≡ k
    → after_all w (get_or blocks i []) ≡ o → after_all w (drop (i * 32) bs) ≡ option_and_then (λ v. after_all v (drop ((i + 1) * 32) bs)) o
block_next bs blocks k i w o e l long h =
    let from : List ℕ = drop (i * 32) bs in
    let more : drop 32 from ≡ drop ((i + 1) * 32) bs = drop-drop 32 (i * 32) bs ∙ ap (λ m. drop m bs) (omega arith) in
    let here : get_or blocks i [] ≡ take 32 from = ap (λ (s : List (List ℕ)). get_or s i []) e ∙ block_at k i bs (omega arith) in
    ap (after_all w) (sym (take-append-drop 32 from))
    ∙ after_append w (take 32 from) (drop 32 from)
    ∙ ap (λ (s : List ℕ). option_and_then (λ v. after_all v s) (after_all w (take 32 from))) more
    ∙ ap (option_and_then (λ v. after_all v (drop ((i + 1) * 32) bs))) (ap (after_all w) (sym here) ∙ h)
