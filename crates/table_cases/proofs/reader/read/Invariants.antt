use Rattle.std.proofs.Common.{◌≡◌, List, drop}
use Rattle.table.specs.Fills.{Filled, IsSameFill}
use Rattle.table.specs.Order.{numbers}
use Rattle.table.specs.declared.row.Row.{Row}
use Rattle.table_cases.specs.Reads.{items}
use Rattle.table_cases.proofs.Items.{joined}
use Rattle.table_cases.proofs.reader.read.Given as goal

-- the items so far are in the table, and the section's are these and then those that are left
abbrev pub invariant-loop-at : goal.invariant-loop-at
invariant-loop-at l =
    (so_far : List Row)
    × Filled numbers (λ _ row. row.number) so_far l.builder
    × (items 0 l.section ≡ joined so_far (items l.at (drop l.at l.section)))
    × IsSameFill l.builder l.initial.builder
