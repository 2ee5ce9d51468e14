use Rattle.std.proofs.Common.{◌∙◌}
use Rattle.text.proofs.Through.{block_next}
use Rattle.text.proofs.machine.Machine.run.Goals as goal

pub loop-block-preserved : goal.loop-block-preserved
loop-block-preserved c =
    c.loop-block.invariant
    ∙ block_next c.args.bytes.now _ _ c.loop-block.block-index _ _ c.as_chunks.ensures.front c.loop-block-test.true c.as_chunks.ensures.front_len c.if-not-block.ensures

pub returns-then-not-block : goal.returns-then-not-block
returns-then-not-block c =
    c.loop-block.invariant
    ∙ block_next c.args.bytes.now _ _ c.loop-block.block-index _ _ c.as_chunks.ensures.front c.loop-block-test.true c.as_chunks.ensures.front_len c.if-not-block.ensures
