use Rattle.std.proofs.Common.{◌≡◌, ◌*◌, drop}
use Rattle.text.specs.States.{wants, after_all}
use Rattle.text.proofs.machine.Machine.run.Given as goal

abbrev pub invariant-loop-block : goal.invariant-loop-block
invariant-loop-block l = after_all (wants l.fn.self.state) l.bytes ≡ after_all (wants l.self.state) (drop (l.block-index * 32) l.bytes)
