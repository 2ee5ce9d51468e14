-- Bytes written over other bytes.
use Rattle.std.specs.Prelude.{ℕ, zero, suc, ◌-◌, ◌^◌, min, List, [], ◌∷◌}

-- `x` over `o` from the place `a` on: `o` keeps its length, and what passes its end is lost.
unfoldable pub overlay : List ℕ → ℕ → List ℕ → List ℕ
overlay [] a x = []
overlay (b ∷ o) (suc a) x = b ∷ overlay o a x
overlay (b ∷ o) zero [] = b ∷ o
overlay (b ∷ o) zero (y ∷ x) = y ∷ overlay o zero x

-- A place is a number of 64 bits, so the largest of these stands for any above it. No buffer reaches so far.
abbrev pub place : ℕ → ℕ
place n = min n (2 ^ 64 - 1)
