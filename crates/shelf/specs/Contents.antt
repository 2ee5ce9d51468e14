-- What a shelf holds: all of it, every byte.
use Rattle.std.specs.Prelude.{ℕ, ◌+◌, List, [], replicate, slice_index_or, slice_set}
use Rattle.shelf.specs.Rows.{Row}

-- The strip length, the number that the next new group gets, a row for each strip, and the bytes behind the last strip.
pub record Contents : Type 0 where
  pub strip : ℕ
  pub next : ℕ
  pub rows : List Row
  pub tail : List ℕ

-- The row of a free strip: all its bytes are 0.
abbrev pub blank : ℕ → Row
blank strip = record { number = 0; count = 0; head = []; rest = replicate strip 0 }

-- The row at a place; past the last strip there is no group.
abbrev pub row_in : Contents → ℕ → Row
row_in c i = slice_index_or c.rows i (blank 0)

-- Another row at one place, and all else as it was.
abbrev pub put : Contents → ℕ → Row → Contents
put c i r = record { strip = c.strip; next = c.next; rows = slice_set c.rows i r; tail = c.tail }

-- The next number is handed out.
abbrev pub handed_out : Contents → Contents
handed_out c = record { strip = c.strip; next = c.next + 1; rows = c.rows; tail = c.tail }
