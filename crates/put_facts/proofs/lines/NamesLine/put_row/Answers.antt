use Rattle.std.proofs.Common.{ap}
use Rattle.facts.specs.Written.{text_bytes}
use Rattle.put.proofs.Chains.{appends_then, appends_same}
use Rattle.put_facts.proofs.lines.NamesLine.put_row.Goals as goal

pub returns : goal.returns
returns c = appends_then c.put_number.ensures (appends_same (ap text_bytes c.value.ensures) c.put_text.ensures)
