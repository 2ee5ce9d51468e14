-- The groups that are counted.
use Rattle.std.proofs.Common.{◌≡◌, ℕ, suc, ◌+◌, ◌<◌, Bool, false, true, not, cond, List, [], ◌∷◌, length, get_or, count_by, refl, sym, ap, ◌∙◌, arith}
use Rattle.std.proofs.lemmas.List.Recursion.{is_count_by}
use Rattle.shelf.specs.declared.shelf.Group.{Group}
use Rattle.shelf.specs.Rows.{Row, free, is_held}
use Rattle.shelf.specs.Contents.{blank}
use Rattle.shelf.specs.Calls.{is_numbered}
use Rattle.shelf.specs.Sizes.{held}

abbrev groups : List Group → ℕ
groups [] = 0
groups (x ∷ xs) = cond (is_held x) (1 + groups xs) (groups xs)

one : (b : Bool) (c : Bool) (n : ℕ) → b ≡ not c → cond b (1 + n) n ≡ cond c 0 1 + n
one true true n e = absurd (cc)
one true false n e = refl
one false true n e = omega arith
one false false n e = absurd (cc)

-- as many groups as rows that belong to one
same_count : (xs : List Group) (rows : List Row) → length xs ≡ length rows → ((j : ℕ) → j < length xs → is_held (get_or xs j free) ≡ not (is_numbered 0 (get_or rows j (blank 0)))) → groups xs ≡ held rows
same_count [] [] n same = refl
same_count [] (r ∷ rs) n same = absurd (omega arith)
same_count (x ∷ xs) [] n same = absurd (omega arith)
same_count (x ∷ xs) (r ∷ rs) n same =
    ap (λ (k : ℕ). cond (is_held x) (1 + k) k) (same_count xs rs (omega arith) (λ j l. same (suc j) (omega arith)))
    ∙ one (is_held x) (is_numbered 0 r) (held rs) (same 0 (omega arith))

pub count_same : (xs : List Group) (rows : List Row) → length xs ≡ length rows → ((j : ℕ) → j < length xs → is_held (get_or xs j free) ≡ not (is_numbered 0 (get_or rows j (blank 0)))) → count_by is_held xs ≡ held rows
count_same xs rows n same = sym (is_count_by groups is_held refl (λ x ys. refl) xs) ∙ same_count xs rows n same
