use Rattle.put.proofs.Chains.{appends_then}
use Rattle.put_facts.proofs.told.NrCpusTold.put.Goals as goal

pub returns : goal.returns
returns c = appends_then c.put_number.ensures c.put_number-2.ensures
