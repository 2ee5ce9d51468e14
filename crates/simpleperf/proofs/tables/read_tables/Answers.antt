use Rattle.std.proofs.Common.{length, sym}
use Rattle.simpleperf.specs.Tables.{sized_file}
use Rattle.simpleperf.proofs.Runs.{run-read}
use Rattle.simpleperf.proofs.Sized.{shorter}
use Rattle.simpleperf.proofs.tables.read_tables.Goals as goal

pub returns : goal.returns
returns c =
    let item = sized_file c.args.section.order (length c.args.section.bytes.now) in
    let some = shorter c.args.section.order (length c.args.section.bytes.now) in
    sym (run-read item some c.args.section.bytes.now (sym c.in_ok-check_files.ensures))
