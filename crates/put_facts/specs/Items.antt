-- Items and rows that are written one after the other.
use Rattle.std.specs.Prelude.{◌≡◌, ℕ, ◌%◌, ◌^◌, List, ◌++◌, length, Option}
use Rattle.std.specs.Iterator.{Drains}
use Rattle.std.specs.List.{flat_map}
use Rattle.put.specs.declared.writer.Writer.{Writer}
use Rattle.put.specs.Appends.{Appends}
use Rattle.facts.specs.Written.{counted_bytes}

-- Everything that an iterator gives was put, one item after the other, and counted by the low 32 bits.
pub record PutsItems {S A : Type 0} (steps : S → Option A → S → Type 0) (bytes : A → List ℕ) (s : S) (before : Writer) (count : ℕ) (after : Writer) : Type 0 where
  pub items : List A
  pub drains : Drains steps s items
  pub appends : Appends (flat_map bytes items) before after
  pub counts : count ≡ length items % 2 ^ 32

-- The same with the count before them.
pub record PutsCounted {S A : Type 0} (steps : S → Option A → S → Type 0) (bytes : A → List ℕ) (s : S) (before after : Writer) : Type 0 where
  pub items : List A
  pub drains : Drains steps s items
  pub appends : Appends (counted_bytes bytes items) before after

-- The bytes of values behind what stands before so many.
abbrev pub listed_bytes : {V : Type 0} → (ℕ → List ℕ) → (V → List ℕ) → List V → List ℕ
listed_bytes front bytes vs = front (length vs) ++ flat_map bytes vs
