use Rattle.std.proofs.Common.{◌≡◌, List, ◌++◌, drop}
use Rattle.table.specs.Fills.{Filled, IsSameFill}
use Rattle.table.specs.declared.row.Row.{Row}
use Rattle.dso_key.specs.Order.{keys}
use Rattle.build_ids.specs.Events.{records}
use Rattle.build_ids.specs.Rows.{row_key, rows_from}
use Rattle.build_ids.proofs.perf_file.tabulate.Given as goal

-- the rows so far are in the table, and the section's are these and then those of the records that are left
abbrev pub invariant-loop-at : goal.invariant-loop-at
invariant-loop-at l =
    (so_far : List Row)
    × Filled keys (λ kind. row_key kind.section.now) so_far l.builder
    × (rows_from 0 (records l.fn.section.order l.fn.section.bytes.now) ≡ so_far ++ rows_from l.at-iterator.at (records l.fn.section.order (drop l.at-iterator.at l.fn.section.bytes.now)))
    × (l.at-iterator.section ≡ l.fn.section)
    × IsSameFill l.builder l.initial.builder
