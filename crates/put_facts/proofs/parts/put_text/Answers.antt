use Rattle.put.proofs.Chains.{appends_then}
use Rattle.put_facts.proofs.parts.put_text.Goals as goal

pub returns : goal.returns
returns c = appends_then c.put_len.ensures c.put.ensures
