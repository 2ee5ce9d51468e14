-- The first place whose row passes a test.
use Rattle.std.proofs.Common.{◌≡◌, ℕ, zero, suc, ◌+◌, ◌<◌, Bool, true, false, cond, ltb, List, [], ◌∷◌, length, get_or, Some, None, Option, refl, sym, ap, ◌∙◌, ⊎_elim, add-one, arith}
use Rattle.std.proofs.lemmas.Bool.{cond-true, cond-false, cases_Bool, lt-ltb, le-ltb, ltb-true, ltb-false}
use Rattle.std.specs.Option as options
use Rattle.std.specs.List.{position, position_or_len}
use Rattle.shelf.specs.Calls.{first_with, later}

-- the loop stops at the first
pub first_here : {X : Type 0} (p : X → Bool) (rows : List X) (d : X) (i : ℕ) → i < length rows → ((j : ℕ) → j < i → p (get_or rows j d) ≡ false) → p (get_or rows i d) ≡ true → first_with p rows ≡ Some i
unfolding first_with
first_here p [] d i l before here = absurd (omega arith)
first_here p (r ∷ rs) d zero l before here = cond-true (p r) (Some 0) (later (first_with p rs)) here
first_here p (r ∷ rs) d (suc i) l before here =
    cond-false (p r) (Some 0) (later (first_with p rs)) (before 0 (omega arith))
    ∙ ap later (first_here p rs d i (omega arith) (λ j q. before (suc j) (omega arith)) here)
    ∙ ap (λ (n : ℕ). Some n) (add-one i)

-- or comes to the end
pub first_none : {X : Type 0} (p : X → Bool) (rows : List X) (d : X) → ((j : ℕ) → j < length rows → p (get_or rows j d) ≡ false) → first_with p rows ≡ None
unfolding first_with
first_none p [] d none = refl
first_none p (r ∷ rs) d none =
    cond-false (p r) (Some 0) (later (first_with p rs)) (none 0 (omega arith)) ∙ ap later (first_none p rs d (λ j q. none (suc j) (omega arith)))

-- two lists with the same answers at each place
pub first_same : {X Y : Type 0} (t : X → Bool) (p : Y → Bool) (xs : List X) (ys : List Y) (d : X) (e : Y) → length xs ≡ length ys → ((j : ℕ) → j < length xs → t (get_or xs j d) ≡ p (get_or ys j e)) → first_with t xs ≡ first_with p ys
unfolding first_with
first_same t p [] [] d e n same = refl
first_same t p [] (y ∷ ys) d e n same = absurd (omega arith)
first_same t p (x ∷ xs) [] d e n same = absurd (omega arith)
first_same t p (x ∷ xs) (y ∷ ys) d e n same =
    ap (λ (b : Bool). cond b (Some 0) (later (first_with t xs))) (same 0 (omega arith))
    ∙ ap (λ (o : Option ℕ). cond (p y) (Some 0) (later o)) (first_same t p xs ys d e (omega arith) (λ j l. same (suc j) (omega arith)))

-- it is what std's `position` finds
pub first_position : {X : Type 0} (t : X → Bool) (xs : List X) → position t xs ≡ first_with t xs
unfolding first_with
first_position t [] = refl
first_position t (x ∷ xs) =
    let more = first_position t xs in
    ⊎_elim (λ e. rw e (cond-true (ltb 0 (length (x ∷ xs))) (Some 0) None (lt-ltb 0 (length (x ∷ xs)) (omega arith))))
    (λ e. ⊎_elim (later_found more e) (later_none more e) (cases_Bool (ltb (position_or_len t xs) (length xs))))
    (cases_Bool (t x))
  where
    n : ℕ
    n = position_or_len t xs

    later_found : position t xs ≡ first_with t xs → t x ≡ false → ltb (position_or_len t xs) (length xs) ≡ true → position t (x ∷ xs) ≡ cond (t x) (Some 0) (later (first_with t xs))
    later_found more e l =
        let q : Some n ≡ first_with t xs = sym (cond-true (ltb n (length xs)) (Some n) None l) ∙ more in
        let k : 1 + n ≡ n + 1 = omega arith in
        rw e (cond-true (ltb (1 + n) (length (x ∷ xs))) (Some (1 + n)) None (lt-ltb (1 + n) (length (x ∷ xs)) (omega (arith, ltb-true n (length xs) l))) ∙ ap (λ (m : ℕ). Some m) k ∙ ap later q)

    later_none : position t xs ≡ first_with t xs → t x ≡ false → ltb (position_or_len t xs) (length xs) ≡ false → position t (x ∷ xs) ≡ cond (t x) (Some 0) (later (first_with t xs))
    later_none more e l =
        let q : None ≡ first_with t xs = sym (cond-false (ltb n (length xs)) (Some n) None l) ∙ more in
        rw e (cond-false (ltb (1 + n) (length (x ∷ xs))) (Some (1 + n)) None (le-ltb (1 + n) (length (x ∷ xs)) (omega (arith, ltb-false n (length xs) l))) ∙ ap later q)

-- what is known of it
abbrev pub Found : {X : Type 0} → (X → Bool) → List X → X → Option ℕ → Type 0
Found p rows d o =
    options.MatchOption o ((j : ℕ) → j < length rows → p (get_or rows j d) ≡ false) (λ i. (i < length rows) × (p (get_or rows i d) ≡ true))

found_later : {X : Type 0} (p : X → Bool) (r : X) (rs : List X) (d : X) (o : Option ℕ) → p r ≡ false → Found p rs d o → Found p (r ∷ rs) d (later o)
found_later p r rs d None n f = none
  where
    none : (j : ℕ) → j < length (r ∷ rs) → p (get_or (r ∷ rs) j d) ≡ false
    none zero l = n
    none (suc j) l = f j (omega arith)
found_later p r rs d (Some i) n f = (omega (arith, f.0), ap (λ (k : ℕ). p (get_or (r ∷ rs) k d)) (add-one i) ∙ f.1)

found_more : {X : Type 0} (p : X → Bool) (r : X) (rs : List X) (d : X) (o : Option ℕ) → Found p rs d o → Found p (r ∷ rs) d (cond (p r) (Some 0) (later o))
found_more p r rs d o f = ⊎_elim (λ e. rw e (omega arith, e)) (λ e. rw e (found_later p r rs d o e f)) (cases_Bool (p r))

pub first_found : {X : Type 0} (p : X → Bool) (rows : List X) (d : X) → Found p rows d (first_with p rows)
unfolding first_with
first_found p [] d = λ j l. absurd (omega arith)
first_found p (r ∷ rs) d = found_more p r rs d (first_with p rs) (first_found p rs d)
