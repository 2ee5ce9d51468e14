-- Texts that are appended one behind the other.
use Rattle.std.proofs.Common.{◌≡◌, ℕ, List, [], ◌∷◌, ◌++◌, ap, ◌∙◌, append_assoc}
use Rattle.std.specs.List.{flat_map}
use Rattle.std.proofs.lemmas.List.{append-nil, flat_map_more}

-- two in a row are one
pub in_a_row : (old mid new a b : List ℕ) → mid ≡ old ++ a → new ≡ mid ++ b → new ≡ old ++ (a ++ b)
in_a_row old mid new a b first then = then ∙ (ap (λ t. t ++ b) first ∙ append_assoc old a b)

-- the text of one item more
pub item_more : {X : Type 0} (f : X → List ℕ) (now next start : List ℕ) (xs : List X) (x : X) → now ≡ start ++ flat_map f xs → next ≡ now ++ f x → next ≡ start ++ flat_map f (xs ++ x ∷ [])
item_more f now next start xs x so_far grown = grown ∙ (ap (λ t. t ++ f x) so_far ∙ flat_map_more f start xs x)

-- the text of one item, by that of a list of it
pub one_item : {X : Type 0} (f : X → List ℕ) (now next : List ℕ) (x : X) → next ≡ now ++ flat_map f (x ∷ []) → next ≡ now ++ f x
one_item f now next x e = e ∙ ap (λ t. now ++ t) (append-nil (f x))
