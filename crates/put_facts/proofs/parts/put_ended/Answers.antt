use Rattle.put.proofs.Chains.{appends_then}
use Rattle.put_facts.proofs.parts.put_ended.Goals as goal

pub returns : goal.returns
returns c = appends_then c.put.ensures c.put-2.ensures
