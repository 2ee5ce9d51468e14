use Rattle.std.proofs.Common.{◌∙◌}
use Rattle.text.proofs.Through.{after_next}
use Rattle.text.proofs.machine.Machine.steps.Goals as goal

pub loop-b-preserved : goal.loop-b-preserved
loop-b-preserved c = c.loop-b.invariant ∙ after_next c.args.bytes.now c.loop-b.b-index _ _ c.loop-b-test.true c.if-not-step.ensures

pub returns-then-not-step : goal.returns-then-not-step
returns-then-not-step c = c.loop-b.invariant ∙ after_next c.args.bytes.now c.loop-b.b-index _ _ c.loop-b-test.true c.if-not-step.ensures
