-- What a section of numbers means: a table, or the place of its first fault.
use Rattle.std.specs.Prelude.{ℕ, suc, cond, List, [], ◌∷◌, Ok, Err, Result, ◌==◌}
use Rattle.std.specs.Option.{ok_or}
use Rattle.table.specs.Order.{numbers}
use Rattle.table.specs.Rows.{blanks}
use Rattle.table.specs.Table.{tabled}
use Rattle.table.specs.Fills.{fits, laid}
use Rattle.table.specs.declared.row.Row.{Row}
use Rattle.table_cases.specs.declared.reader.Refused.{Refused}
use Rattle.table_cases.specs.declared.reader.Refused.TheVariants.{Fault, TooFewRows}

abbrev pub item : ℕ → Row
item b = record { number = b; key_at = 0; key_len = 0; value_at = 0; value_len = 0 }

abbrev pub more : Row → Result (List Row) ℕ → Result (List Row) ℕ
more r (Ok rs) = Ok (r ∷ rs)
more r (Err at) = Err at

-- The items of a section, or the place of its first fault.
abbrev pub items : ℕ → List ℕ → Result (List Row) ℕ
items at [] = Ok []
items at (b ∷ bs) = cond (b == 255) (Err at) (more (item b) (items (suc at) bs))

abbrev pub table : List Row → List Row
table given = tabled numbers (λ row. row.number) given

abbrev pub answered : ℕ → Result (List Row) ℕ → Result ℕ Refused
answered n (Ok given) = ok_or (fits n (table given)) TooFewRows
answered n (Err at) = Err (Fault at)

abbrev pub leaves : ℕ → Result (List Row) ℕ → List Row
leaves n (Ok given) = laid n (table given)
leaves n (Err at) = blanks n

abbrev pub answer : ℕ → List ℕ → Result ℕ Refused
answer n section = answered n (items 0 section)

abbrev pub left : ℕ → List ℕ → List Row
left n section = leaves n (items 0 section)
