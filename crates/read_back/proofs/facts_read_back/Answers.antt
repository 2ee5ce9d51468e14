use Rattle.read_back.proofs.Facts.{facts_back}
use Rattle.read_back.proofs.facts_read_back.Goals as goal

pub returns : goal.returns
returns c = facts_back
