use Rattle.std.proofs.Common.{[], sym, ap, ◌∙◌, arith}
use Rattle.std.specs.List.{flat_map}
use Rattle.std.proofs.lemmas.List.{take_more, flat_map_more}
use Rattle.put.proofs.Chains.{appends_none, appends_then, appends_same}
use Rattle.put_facts.proofs.rows.put_rows.Goals as goal

pub loop-row-init : goal.loop-row-init
loop-row-init g c = appends_none c.args.w.now

pub loop-row-preserved : goal.loop-row-preserved
loop-row-preserved g c =
    let line = g.L.Line.line c.args.line.now in
    appends_same
    (flat_map_more line [] _ _ ∙ ap (flat_map line) (sym (take_more c.args.rows.now c.loop-row.row-index _ (omega (arith, c.loop-row-test.true)))))
    (appends_then c.loop-row.invariant c.put_row.ensures)
