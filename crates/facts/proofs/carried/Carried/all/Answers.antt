use Rattle.std.proofs.Common.{refl}
use Rattle.facts.specs.Head.{carried}
use Rattle.facts.proofs.carried.Carried.all.Goals as goal

pub returns : goal.returns
unfolding carried
returns c = refl
