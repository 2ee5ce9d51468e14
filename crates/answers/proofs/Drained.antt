-- What an iterator gave is what it had to give.
use Rattle.std.proofs.Common.{◌≡◌, ℕ, List, [], ◌∷◌, None, sym, ap, ◌∙◌}
use Rattle.std.specs.Iterator.{Yields, YieldsFirst, Drains}

module _ {S : Type 0} (rest : S → List ℕ) where
  given_all : (s t u : S) (xs : List ℕ) → Yields (YieldsFirst rest) s xs t → YieldsFirst rest t None u → xs ≡ rest s
  given_all s t u [] e h = sym (ap rest e ∙ h.0)
  given_all s t u (x ∷ xs) e h = ap (λ ys. x ∷ ys) (given_all e.0 t u xs e.2 h) ∙ sym e.1

  pub drained : (s : S) (xs : List ℕ) → Drains (YieldsFirst rest) s xs → xs ≡ rest s
  drained s xs d = given_all s d.1.0 d.0 xs d.1.1 d.1.2
