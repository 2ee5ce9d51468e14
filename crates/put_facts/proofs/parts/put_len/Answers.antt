use Rattle.put.proofs.Chains.{appends_same, bytes_low}
use Rattle.put_facts.proofs.parts.put_len.Goals as goal

pub returns : goal.returns
returns c = appends_same (bytes_low 4 c.args.len) c.put_number.ensures
