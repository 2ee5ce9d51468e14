use Rattle.std.proofs.Common.{◌+◌, ◌*◌, ◌≤◌, length, drop}
use Rattle.facts.specs.Head.{answer, entries}
use Rattle.head.proofs.Writes.{Going}
use Rattle.head.proofs.head.write_entries.Given as goal

-- the entries of the features that are left are still to be written
abbrev pub invariant-loop-feature : goal.invariant-loop-feature
invariant-loop-feature g l =
    let answers = answer (length l.initial.rows) (g.S.Store.endian l.store) (g.S.Store.map l.store).at in
    Going (entries answers l.feature-items) l.initial.w (entries answers (drop l.feature-index l.feature-items)) l.w
    × (l.w.at ≤ l.initial.w.at + 4294967302 * l.feature-index)
