use Rattle.put.proofs.Chains.{appends_then}
use Rattle.put_facts.proofs.rows.put_listed.Goals as goal

pub returns : goal.returns
returns g c = appends_then c.put_front.ensures c.put_rows.ensures
