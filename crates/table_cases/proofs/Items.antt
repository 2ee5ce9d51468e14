-- The items of a section, one after another.
use Rattle.std.proofs.Common.{◌≡◌, ℕ, suc, ◌+◌, ◌<◌, ◌≤◌, Bool, true, false, cond, eqb, List, [], ◌∷◌, ◌++◌, length, get_or, drop, Ok, Err, Result, sym, refl, ap, ◌∙◌, append_assoc, append-nil, add-one}
use Rattle.std.proofs.lemmas.List.{drop_more, drop_all}
use Rattle.table.specs.declared.row.Row.{Row}
use Rattle.table_cases.specs.Reads.{item, items, more}

abbrev pub joined : List Row → Result (List Row) ℕ → Result (List Row) ℕ
joined given (Ok rs) = Ok (given ++ rs)
joined given (Err at) = Err at

joined_more : (given : List Row) (r : Row) (p : Result (List Row) ℕ) → joined given (more r p) ≡ joined (given ++ r ∷ []) p
joined_more given r (Ok rs) = ap Ok (sym (append_assoc given (r ∷ []) rs))
joined_more given r (Err at) = refl

pub joined_none : (p : Result (List Row) ℕ) → p ≡ joined [] p
joined_none (Ok rs) = refl
joined_none (Err at) = refl

module _ (s : List ℕ) (given : List Row) (at : ℕ) (is : items 0 s ≡ joined given (items at (drop at s))) where
  module _ (within : at < length s) where
    here : (b : Bool) → eqb (get_or s at 0) 255 ≡ b → items 0 s ≡ joined given (cond b (Err at) (more (item (get_or s at 0)) (items (suc at) (drop (at + 1) s))))
    here b e = is ∙ ap (λ t. joined given (items at t)) (drop_more s at 0 within) ∙ ap (λ c. joined given (cond c (Err at) (more (item (get_or s at 0)) (items (suc at) (drop (at + 1) s))))) e

    pub items-fault : eqb (get_or s at 0) 255 ≡ true → items 0 s ≡ Err at
    items-fault e = here true e

    pub items_more : eqb (get_or s at 0) 255 ≡ false → items 0 s ≡ joined (given ++ item (get_or s at 0) ∷ []) (items (at + 1) (drop (at + 1) s))
    items_more e =
        here false e ∙ joined_more given (item (get_or s at 0)) (items (suc at) (drop (at + 1) s))
        ∙ ap (λ n. joined (given ++ item (get_or s at 0) ∷ []) (items n (drop (at + 1) s))) (sym (add-one at))

  pub items_all : length s ≤ at → items 0 s ≡ Ok given
  items_all h = is ∙ ap (λ t. joined given (items at t)) (drop_all at s h) ∙ ap Ok (append-nil given)
