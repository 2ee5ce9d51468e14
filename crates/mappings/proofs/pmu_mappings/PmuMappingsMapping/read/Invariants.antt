use Rattle.std.proofs.Common.{◌≡◌, ◌-◌, ◌≤◌, List, length}
use Rattle.table.specs.Order.{numbers}
use Rattle.table.specs.Fills.{Filled, IsSameFill}
use Rattle.table.specs.declared.row.Row.{Row}
use Rattle.mappings.specs.PmuMappings.{name_row, key_of, items, items_in}
use Rattle.mappings.proofs.Joins.{joined}
use Rattle.mappings.proofs.pmu_mappings.PmuMappingsMapping.read.Given as goal

-- the rows so far are in the table, and the section's are these and then those of what is left
abbrev pub invariant-loop : goal.invariant-loop
invariant-loop l =
    (so_far : List Row)
    × Filled numbers (λ _. key_of) so_far l.builder
    × (items name_row l.section.order l.section.bytes.now ≡ joined so_far (items_in name_row l.section.order (length l.section.bytes.now) (l.count - l.counter) l.rest))
    × (length l.rest ≤ length l.section.bytes.now)
    × IsSameFill l.builder l.initial.builder
