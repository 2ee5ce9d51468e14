use Rattle.hexadecimal.specs.Hex.{pair_of}
use Rattle.answers.proofs.Appended.{item_more, one_item}
use Rattle.answers.proofs.told.write_hex.Goals as goal

pub loop-byte-preserved : goal.loop-byte-preserved
loop-byte-preserved g c =
    item_more pair_of _ _ _ c.loop-byte.yielded c.in-Some.byte c.loop-byte.invariant (one_item pair_of _ _ c.in-Some.byte c.in_ok-write.ensures.bytes)
