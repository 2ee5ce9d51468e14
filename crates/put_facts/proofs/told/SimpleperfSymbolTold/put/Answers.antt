use Rattle.std.proofs.Common.{ap}
use Rattle.facts.specs.Written.{ended}
use Rattle.put.proofs.Chains.{appends_then, appends_same}
use Rattle.put_facts.proofs.told.SimpleperfSymbolTold.put.Goals as goal

pub returns : goal.returns
returns c =
    appends_then c.put_number.ensures
    (appends_then c.put_number-2.ensures (appends_same (ap ended c.as_bytes.ensures.value) c.put_ended.ensures))
