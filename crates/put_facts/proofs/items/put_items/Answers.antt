use Rattle.std.proofs.Common.{[], arith}
use Rattle.std.proofs.lemmas.List.{length_push, flat_map_more}
use Rattle.put.proofs.Chains.{appends_none, appends_then, appends_same}
use Rattle.put_facts.proofs.items.put_items.Goals as goal

pub loop-item-init : goal.loop-item-init
loop-item-init g c = (appends_none c.args.w.now, omega arith)

pub loop-item-preserved : goal.loop-item-preserved
loop-item-preserved g c = (
  appends_same (flat_map_more g.T.Told.bytes [] c.loop-item.yielded c.in-Some.item) (appends_then c.loop-item.invariant.0 c.put.ensures),
  omega (arith, c.loop-item.invariant.1, length_push c.loop-item.yielded c.in-Some.item),
)
