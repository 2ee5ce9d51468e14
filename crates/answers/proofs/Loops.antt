-- What a loop has written, once nothing is to come.
use Rattle.std.proofs.Common.{◌≡◌, ℕ, List, [], ◌++◌, sym, ap, ◌∙◌}
use Rattle.std.proofs.lemmas.List.{append-nil}
use Rattle.std.specs.List.{flat_map}

module _ {V : Type 0} (f : V → List ℕ) where
  pub done : (now start : List ℕ) (ahead : List V) → now ++ flat_map f ahead ≡ start → ahead ≡ [] → now ≡ start
  done now start ahead e none = sym (append-nil now) ∙ (ap (λ vs. now ++ flat_map f vs) (sym none) ∙ e)
