use Rattle.std.proofs.Common.{◌≡◌, ◌+◌, ◌-◌, ◌≤◌, List, length}
use Rattle.table.specs.Order.{texts}
use Rattle.table.specs.Rows.{key_part}
use Rattle.table.specs.Fills.{Filled, IsSameFill}
use Rattle.table.specs.declared.row.Row.{Row}
use Rattle.mappings.specs.MetaInfo.{paired, pair_row, pieces, pieces_from}
use Rattle.mappings.proofs.Joins.{joined}
use Rattle.mappings.proofs.meta_info.MetaInfoMapping.read.Given as goal

-- the rows so far are in the table, and the section's are these and then those of the pieces that are left
abbrev pub invariant-loop-row : goal.invariant-loop-row
invariant-loop-row l =
    (so_far : List Row)
    × Filled texts (λ kind. key_part kind.section.now) so_far l.builder
    × (paired pair_row (pieces 0 l.section.bytes.now) ≡ joined so_far (paired pair_row (pieces_from l.section.bytes.now l.at)))
    × (l.at ≤ length l.section.bytes.now + 1)
    × IsSameFill l.builder l.initial.builder

abbrev pub decreases-loop-row : goal.decreases-loop-row
decreases-loop-row l = length l.section.bytes.now + 1 - l.at
