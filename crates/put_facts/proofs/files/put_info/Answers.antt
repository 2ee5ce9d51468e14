use Rattle.std.proofs.Common.{Some, sym, ap, ◌∙◌}
use Rattle.facts.specs.Written.{u64, info_bytes}
use Rattle.simpleperf.specs.Answers.{offsets_of, info_of}
use Rattle.put.proofs.Chains.{appends_none, appends_same}
use Rattle.put_facts.proofs.Drained.{counted_put}
use Rattle.put_facts.proofs.files.put_info.Goals as goal

pub returns-in_default : goal.returns-in_default
returns-in_default c = appends_same (ap (λ i. info_bytes (info_of i)) (sym c.in_default.is)) (appends_none c.args.w.now)

pub returns-in-SimpleperfDexFileInfo : goal.returns-in-SimpleperfDexFileInfo
returns-in-SimpleperfDexFileInfo c =
    appends_same (ap (λ i. info_bytes (info_of i)) (sym (c.in-Some.is ∙ ap Some c.in-SimpleperfDexFileInfo.is)))
    (counted_put (λ n. n) offsets_of u64 c.put_counted.ensures (λ s t h. h.0) (λ s x t h. h))
