-- What rows hold while a table is made in them, and in the end.
use Rattle.std.specs.Prelude.{◌≡◌, ℕ, ◌-◌, ◌<◌, ◌≤◌, cond, List, ◌++◌, length, Some, None, Option, nat_le}
use Rattle.table.specs.Order.{Order}
use Rattle.table.specs.Rows.{blanks}
use Rattle.table.specs.Table.{tabled}
use Rattle.table.specs.declared.row.Row.{Row}
use Rattle.table.specs.declared.builder.TableBuilder.{TableBuilder}
use Rattle.table.specs.declared.fill.Fill.{Fill}
use Rattle.table.specs.declared.fill.Fill.TheVariants.{Used, Over}

-- The number of rows that a table uses, of n in all: none where they are too few.
abbrev pub fits : ℕ → List Row → Option ℕ
fits n table = cond (nat_le (length table) n) (Some (length table)) None

-- The table in the first of n rows, the others blank; where they are too few, all are blank.
abbrev pub laid : ℕ → List Row → List Row
laid n table = cond (nat_le (length table) n) (table ++ blanks (n - length table)) (blanks n)

-- Rows hold a table as far as it fits, and how many of them are used says whether it does.
abbrev pub Holds : List Row → Option ℕ → List Row → Type 0
Holds table (Some n) rows = (n ≡ length table) × (n ≤ length rows) × (rows ≡ table ++ blanks (length rows - n))
Holds table None rows = (length rows < length table) × (rows ≡ blanks (length rows))

-- How many rows a state of a table says are used.
abbrev pub used_of : Fill → Option ℕ
used_of (Used n) = Some n
used_of Over = None

-- A builder has what comes of inserting the rows `given`, one after another, into as many blank rows: `key` gives a row's key
-- by the builder's kind, and `o` is the order of the keys.
abbrev pub Filled : {K X : Type 0} → Order X → (K → Row → X) → List Row → TableBuilder K → Type 0
Filled o key given builder = Holds (tabled o (key builder.kind) given) builder.used builder.rows.now

-- Two states of one builder: the kind is the same, and so are the rows that it stands in.
abbrev pub IsSameFill : {K : Type 0} → TableBuilder K → TableBuilder K → Type 0
IsSameFill a b = (a.kind ≡ b.kind) × (a.rows.ghost_name ≡ b.rows.ghost_name) × (length a.rows.now ≡ length b.rows.now)
