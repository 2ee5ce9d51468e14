use Rattle.std.proofs.Common.{take}
use Rattle.table.specs.Fills.{Filled, IsSameFill}
use Rattle.table_cases.proofs.caller.tabulate.Given as goal

-- the rows so far are in the table
abbrev pub invariant-loop-row : goal.invariant-loop-row
invariant-loop-row g l =
    let m = g.K.Kind in
    Filled m.order (λ kind. m.key kind.now) (take l.row-index l.given) l.builder × IsSameFill l.builder l.initial.builder
