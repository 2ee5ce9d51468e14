-- Items that an iterator gave, by the list that it shows of what is left.
use Rattle.std.proofs.Common.{◌≡◌, ℕ, List, [], ◌∷◌, ◌++◌, map, Some, None, Option, sym, ap, ◌∙◌}
use Rattle.std.specs.Iterator.{Yields}
use Rattle.std.specs.List.{flat_map}
use Rattle.std.proofs.lemmas.List.{length-map}
use Rattle.std.proofs.lemmas.List.Folds.{flat_map-map}
use Rattle.put.specs.declared.writer.Writer.{Writer}
use Rattle.put.specs.Appends.{Appends}
use Rattle.put.proofs.Chains.{appends_same}
use Rattle.facts.specs.Written.{u32, counted_bytes}
use Rattle.put_facts.specs.Items.{PutsItems, PutsCounted}

-- of what values stand for
pub counted-map : {R V : Type 0} (f : V → List ℕ) (g : R → V) (rs : List R) → counted_bytes (λ r. f (g r)) rs ≡ counted_bytes f (map g rs)
counted-map f g rs = λ i. u32 (sym (length-map rs g) i) ++ sym (flat_map-map f g rs) i

module _ {S A V : Type 0} (steps : S → Option A → S → Type 0) (view : A → V) (rest : S → List V) where
  -- none is given once none is left, and else the first
  abbrev Ends : Type 0
  Ends = (s t : S) → steps s None t → rest s ≡ []

  abbrev Goes : Type 0
  Goes = (s : S) (x : A) (t : S) → steps s (Some x) t → rest s ≡ view x ∷ rest t

  drained : (s t u : S) (xs : List A) → Yields steps s xs t → steps t None u → Ends → Goes → map view xs ≡ rest s
  drained s t u [] e h none some = sym (ap rest e ∙ none t u h)
  drained s t u (x ∷ xs) e h none some =
      ap (λ ys. view x ∷ ys) (drained e.0 t u xs e.2 h none some) ∙ sym (some s x e.0 e.1)

module _ {S A V : Type 0} {steps : S → Option A → S → Type 0} (view : A → V) (rest : S → List V) {s : S} {u v : Writer} (f : V → List ℕ) where
  pub items_put : {count : ℕ} → PutsItems steps (λ x. f (view x)) s u count v → Ends steps view rest → Goes steps view rest → Appends (flat_map f (rest s)) u v
  items_put p none some =
      let d = p.drains in
      appends_same (sym (flat_map-map f view p.items) ∙ ap (flat_map f) (drained steps view rest s d.1.0 d.0 p.items d.1.1 d.1.2 none some)) p.appends

  pub counted_put : PutsCounted steps (λ x. f (view x)) s u v → Ends steps view rest → Goes steps view rest → Appends (counted_bytes f (rest s)) u v
  counted_put p none some =
      let d = p.drains in
      appends_same (counted-map f view p.items ∙ ap (counted_bytes f) (drained steps view rest s d.1.0 d.0 p.items d.1.1 d.1.2 none some)) p.appends
