-- The rows that a section's table is kept in.
use Rattle.std.specs.Prelude.{ℕ, ◌+◌, ◌%◌, List, [], ◌∷◌, map, length, take, Option}
use Rattle.std.specs.Option.{option_map, unwrap_or}
use Rattle.wire.specs.declared.order.ByteOrder.{ByteOrder}
use Rattle.table.specs.Rows.{key_part, value_part}
use Rattle.table.specs.Table.{tabled}
use Rattle.table.specs.declared.row.Row.{Row}
use Rattle.dso_key.specs.Detect.{detect}
use Rattle.dso_key.specs.Keys.{Key, kernel}
use Rattle.dso_key.specs.Least.{least_mode}
use Rattle.dso_key.specs.Modes.{mode_of}
use Rattle.dso_key.specs.Order.{keys}
use Rattle.build_ids.specs.Events.{Event, records}
use Rattle.build_ids.specs.Table.{Entry, keep}

-- The key of a row: that of its path in the mode of its number.
abbrev pub key_of_row : List ℕ → Row → Option Key
key_of_row section row = detect (key_part section row) (mode_of row.number)

-- The same, total: a row that has none is no row of a table, and is taken for the kernel.
abbrev pub row_key : List ℕ → Row → Key
row_key section row = unwrap_or (key_of_row section row) kernel

-- The entry that a row stands for.
abbrev pub entry_in : List ℕ → Row → Entry
entry_in section row = (row_key section row, (key_part section row, value_part section row))

-- The row of a record that stands at an offset, if it has a key: the least mode that gives the key, where the path is, and
-- where the id is.
abbrev pub row_with : ℕ → Event → ℕ → Row
row_with at e mode = record { number = mode; key_at = at + 36; key_len = length e.path; value_at = at + 12; value_len = length e.id }

abbrev pub row_of : ℕ → Event → Option Row
row_of at e = option_map (row_with at e) (least_mode e.path (mode_of (e.misc % 8)))

-- The rows of records that stand one behind another from an offset on.
abbrev pub rows_from : ℕ → List Event → List Row
rows_from at [] = []
rows_from at (e ∷ es) = keep (row_of at e) (rows_from (at + e.size) es)

unfoldable pub row_table : ByteOrder → List ℕ → List Row
row_table o s = tabled keys (row_key s) (rows_from 0 (records o s))

-- The entries that the first n of some rows stand for.
abbrev pub builds_in : List ℕ → List Row → ℕ → List Entry
builds_in section rows n = map (entry_in section) (take n rows)
