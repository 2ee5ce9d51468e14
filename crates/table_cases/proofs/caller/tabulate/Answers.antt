use Rattle.std.proofs.Common.{take, sym, subst, rules}
use Rattle.std.proofs.lemmas.List.{take_more}
use Rattle.table.specs.Fills.{Filled}
use Rattle.table.specs.Rows.{blank}
use Rattle.table_cases.proofs.caller.tabulate.Goals as goal

pub loop-row-preserved : goal.loop-row-preserved
loop-row-preserved g c =
    let m = g.K.Kind in
    let given = c.args.given.now in
    let i = c.loop-row.row-index in (
      subst (λ xs. Filled m.order (λ kind. m.key kind.now) xs c.add.new.self) (sym (take_more given i blank c.loop-row-test.true)) (c.add.ensures.added (take i given) c.loop-row.invariant.0),
      search rules,
    )
