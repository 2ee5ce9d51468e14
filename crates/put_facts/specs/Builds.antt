-- Rows of build ids as bytes.
use Rattle.std.specs.Prelude.{ℕ, ◌+◌, List, ◌++◌, length}
use Rattle.table.specs.Rows.{key_part, value_part}
use Rattle.table.specs.declared.row.Row.{Row}
use Rattle.facts.specs.Written.{u16, u32, id_bytes}

-- A build id record of a mode, a path and an id.
abbrev pub record_bytes : ℕ → List ℕ → List ℕ → List ℕ
record_bytes mode path id =
    u32 67 ++ (u16 (0x8000 + mode) ++ (u16 (36 + length path) ++ (u32 0 ++ (id_bytes id ++ path))))

-- That of a row: its number is the mode.
abbrev pub row_bytes : List ℕ → Row → List ℕ
row_bytes section row = record_bytes row.number (key_part section row) (value_part section row)
