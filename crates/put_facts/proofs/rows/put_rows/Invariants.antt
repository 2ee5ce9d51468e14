use Rattle.std.proofs.Common.{take}
use Rattle.std.specs.List.{flat_map}
use Rattle.put.specs.Appends.{Appends}
use Rattle.put_facts.proofs.rows.put_rows.Given as goal

-- the rows before this one are put
abbrev pub invariant-loop-row : goal.invariant-loop-row
invariant-loop-row g l = Appends (flat_map (g.L.Line.line l.line) (take l.row-index l.rows)) l.initial.w l.w
