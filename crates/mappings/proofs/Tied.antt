-- The rows of a table and the entries that they stand for.
use Rattle.std.proofs.Common.{◌≡◌, List, map, Ok, Err, Result, refl, ap}
use Rattle.wire.specs.declared.refusal.Fault.{Fault}
use Rattle.table.specs.Order.{Order}
use Rattle.table.specs.declared.row.Row.{Row}
use Rattle.table.proofs.Carried.{carries}
use Rattle.mappings.specs.Tables.{table_by, with_value}

-- A table of rows stands for the table of what the rows stand for, by the same keys.
pub table_tied : {K X : Type 0} (o : Order K) (key : Row → K) (f : Row → K × X) → ((row : Row) → (f row).0 ≡ key row) → (given : Result (List Row) Fault) → with_value (map f) (table_by o key given) ≡ table_by o (λ e. e.0) (with_value (map f) given)
table_tied o key f kept (Ok rows) = ap Ok (carries o key (λ e. e.0) f kept rows)
table_tied o key f kept (Err e) = refl
