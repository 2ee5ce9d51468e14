use Rattle.std.proofs.Common.{◌≡◌, length, ap, arith}
use Rattle.facts.specs.Written.{u32, file_bytes}
use Rattle.simpleperf.specs.Answers.{file_of}
use Rattle.put.specs.Overlay.{place}
use Rattle.put.proofs.Chains.{appends_then, appends_same}
use Rattle.put_facts.proofs.files.put_sized.Goals as goal

pub returns : goal.returns
returns c =
    let n = length (file_bytes (file_of c.args.file)) in
    let len : c.at.result ≡ place n = omega (arith, c.at.ensures, c.put_file.ensures.puts.goes, c.new-counter.ensures.at) in
    appends_then (appends_same (ap u32 len) c.put_len.ensures) c.put_file-2.ensures
