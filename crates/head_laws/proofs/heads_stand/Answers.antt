use Rattle.head_laws.proofs.Stands.{heads_speak}
use Rattle.head_laws.proofs.heads_stand.Goals as goal

pub returns : goal.returns
returns c = heads_speak
