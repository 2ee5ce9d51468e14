use Rattle.std.proofs.Common.{◌≡◌, ◌<◌, length, sym, ◌∙◌, rules}
use Rattle.std.proofs.lemmas.Result.{err_from_is_err_and}
use Rattle.simpleperf.specs.Tables.{sized_file}
use Rattle.simpleperf.proofs.Runs.{fault-more, fault_here, fault-none}
use Rattle.simpleperf.proofs.Sized.{shorter}
use Rattle.simpleperf.proofs.tables.check_files.Goals as goal

pub returns-in_err-read : goal.returns-in_err-read
returns-in_err-read c =
    let p = err_from_is_err_and c.from_residual.result c.from_residual.ensures.1 in
    let here = c.loop-reader.reader in
    let same = c.loop-reader.invariant.0 in
    let left : 0 < length here.rest.now = search rules in
    let fault = fault_here (sized_file here.order here.size) (shorter here.order here.size) here.rest.now _ left (sym c.in_err-read.ensures.reads) in
    rw (p.1, p.2) (cc)

pub loop-reader-preserved : goal.loop-reader-preserved
loop-reader-preserved c =
    let here = c.loop-reader.reader in
    let same = c.loop-reader.invariant.0 in
    let more = fault-more (sized_file here.order here.size) (shorter here.order here.size) here.rest.now _ (sym c.in_ok-read.ensures.reads) in
    (record { order = cc; size = cc }, cc)

pub returns : goal.returns
returns c =
    let before = c.args.reader in
    let here = c.loop-reader.reader in
    let none : length here.rest.now ≡ 0 = search rules in
    sym (c.loop-reader.invariant.1 ∙ fault-none (sized_file before.order before.size) (shorter before.order before.size) here.rest.now none)
