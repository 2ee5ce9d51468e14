use Rattle.std.proofs.Common.{ap}
use Rattle.facts.specs.Written.{ended}
use Rattle.put.proofs.Chains.{appends_then, appends_same}
use Rattle.put_facts.proofs.lines.TextsLine.put_row.Goals as goal

pub returns : goal.returns
returns c =
    appends_then (appends_same (ap ended c.key.ensures) c.put_ended.ensures) (appends_same (ap ended c.value.ensures) c.put_ended-2.ensures)
