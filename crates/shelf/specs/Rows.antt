-- A shelf strip by strip: the group that a strip is held for, its head, and what lies behind the head.
use Rattle.std.specs.Prelude.{ℕ, ◌*◌, Bool, not, List, take, drop, ◌==◌, slice_index_or}
use Rattle.shelf.specs.declared.shelf.Group.{Group}

-- What stands for no group: no group has the number 0.
abbrev pub free : Group
free = record { number = 0; count = 0; len = 0 }

abbrev pub is_free : Group → Bool
is_free g = g.number == 0

abbrev pub is_held : Group → Bool
is_held g = not (is_free g)

-- A group's number, 0 where the strip is free; its count; the head that the strip begins with, and the rest of the strip.
pub record Row : Type 0 where
  pub number : ℕ
  pub count : ℕ
  pub head : List ℕ
  pub rest : List ℕ

abbrev pub row_of : Group → List ℕ → Row
row_of g bytes = record { number = g.number; count = g.count; head = take g.len bytes; rest = drop g.len bytes }

-- The bytes of a strip.
abbrev pub strip_at : ℕ → List ℕ → ℕ → List ℕ
strip_at strip bytes j = take strip (drop (j * strip) bytes)

abbrev pub row_at : ℕ → List Group → List ℕ → ℕ → Row
row_at strip groups bytes j = row_of (slice_index_or groups j free) (strip_at strip bytes j)
