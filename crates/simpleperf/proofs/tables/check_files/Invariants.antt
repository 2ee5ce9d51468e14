use Rattle.std.proofs.Common.{◌≡◌, length}
use Rattle.perf_data.specs.Texts.{first_fault}
use Rattle.simpleperf.specs.Parse.{run}
use Rattle.simpleperf.specs.Reading.{SameRecord}
use Rattle.simpleperf.specs.Tables.{sized_file}
use Rattle.simpleperf.proofs.tables.check_files.Given as goal

abbrev pub invariant-loop-reader : goal.invariant-loop-reader
invariant-loop-reader l =
    let before = l.fn.reader in
    SameRecord before l.reader
    × (first_fault (run (sized_file before.order before.size) before.rest.now) ≡ first_fault (run (sized_file before.order before.size) l.reader.rest.now))

abbrev pub decreases-loop-reader : goal.decreases-loop-reader
decreases-loop-reader l = length l.reader.rest.now
