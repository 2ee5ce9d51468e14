use Rattle.std.proofs.Common.{ap}
use Rattle.facts.specs.Written.{u32, symbol_bytes, ended}
use Rattle.simpleperf.specs.Answers.{symbol_of, symbols_of}
use Rattle.put.proofs.Chains.{appends_then, appends_same}
use Rattle.put_facts.proofs.Drained.{counted_put}
use Rattle.put_facts.proofs.files.put_file.Goals as goal

pub returns : goal.returns
returns c =
    appends_then (appends_same (ap ended c.as_bytes.ensures.value) c.put_ended.ensures)
    (appends_then (appends_same (ap u32 c.from.ensures) c.put_number.ensures)
    (appends_then c.put_number-2.ensures
    (appends_then (counted_put symbol_of symbols_of symbol_bytes c.put_counted.ensures (λ s t h. h.0) (λ s x t h. h)) c.put_info.ensures)))
