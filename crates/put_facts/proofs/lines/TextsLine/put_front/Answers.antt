use Rattle.put.proofs.Chains.{appends_none}
use Rattle.put_facts.proofs.lines.TextsLine.put_front.Goals as goal

pub returns : goal.returns
returns c = appends_none c.args._w.now
