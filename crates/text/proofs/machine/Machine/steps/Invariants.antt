use Rattle.std.proofs.Common.{◌≡◌, drop}
use Rattle.text.specs.States.{wants, after_all}
use Rattle.text.proofs.machine.Machine.steps.Given as goal

abbrev pub invariant-loop-b : goal.invariant-loop-b
invariant-loop-b l = after_all (wants l.fn.self.state) l.bytes ≡ after_all (wants l.self.state) (drop l.b-index l.bytes)
