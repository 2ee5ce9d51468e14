-- How a shelf's fields hold its contents.
use Rattle.std.specs.Prelude.{◌≡◌, ℕ, ◌*◌, ◌≤◌, List, ◌++◌, map, length, drop, vec_items, vec_len, slice_index_or, Option, Some, None}
use Rattle.std.specs.List.{range_with_len, flat_map}
use Rattle.shelf.specs.declared.shelf.Group.{Group}
use Rattle.shelf.specs.declared.shelf.Shelf.TheInside.{Inside}
use Rattle.shelf.specs.Rows.{Row, free, row_at}
use Rattle.shelf.specs.Contents.{Contents}

-- When the numbers are used up, the next would be above those of a u32.
abbrev pub next_number : Option ℕ → ℕ
next_number None = 4294967296
next_number (Some n) = n

abbrev pub contents_of : ℕ → ℕ → ℕ → List Group → List ℕ → Contents
contents_of strip strips next groups bytes =
    record { strip = strip; next = next; rows = map (row_at strip groups bytes) (range_with_len 0 strips); tail = drop (strips * strip) bytes }

abbrev pub contents : Inside → Contents
contents s = contents_of s.strip s.strips (next_number s.next) s.groups (vec_items s.bytes)

-- Every strip has a place for its group and bytes of its own.
pub record Sound (s : Inside) : Type 0 where
  pub places : length s.groups ≡ 64
  pub few : s.strips ≤ 64
  pub room : s.strips * s.strip ≤ vec_len s.bytes
  pub fits : (j : ℕ) → (slice_index_or s.groups j free).len ≤ s.strip
  pub next : 1 ≤ next_number s.next

-- No byte is left out: the shelf's bytes are those of the strips, head and rest of each, and those behind the last.
abbrev pub EveryByte : Type 0
EveryByte = (s : Inside) → vec_items s.bytes ≡ flat_map (λ (r : Row). r.head ++ r.rest) (contents s).rows ++ (contents s).tail
