-- A text that was checked, where it is well formed.
use Rattle.std.proofs.Common.{◌≡◌, ℕ, List, Ok, Err, Result, IsUtf8, MatchResult}
use Rattle.std.specs.Borrow.{Bor}
use Rattle.std.specs.Result.{result_unwrap_or}

pub checked_or : {E : Type 0} (bs : List ℕ) (r : Result (Bor (List ℕ)) E) (other : Bor (List ℕ)) (Q : E → Type 0) → IsUtf8 bs
    → MatchResult r (λ s. (s.now ≡ bs) × IsUtf8 bs) (λ e. (IsUtf8 bs → ⊥) × Q e) → (result_unwrap_or r other).now ≡ bs
checked_or bs (Ok s) other Q u h = h.0
checked_or bs (Err e) other Q u h = absurd (h.0 u)
