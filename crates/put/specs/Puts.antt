-- What a writer does.
use Rattle.std.specs.Prelude.{◌≡◌, ℕ, ◌+◌, List, length}
use Rattle.put.specs.Overlay.{overlay, place}

-- `bytes` were put over `out` from the place `at` on: the next place is the one after them, and this is left.
pub record Puts (bytes out : List ℕ) (at next : ℕ) (left : List ℕ) : Type 0 where
  pub goes : next ≡ place (at + length bytes)
  pub leaves : left ≡ overlay out at bytes
