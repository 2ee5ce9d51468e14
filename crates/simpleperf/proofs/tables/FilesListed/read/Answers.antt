use Rattle.std.proofs.Common.{◌≡◌, ◌-◌, length, drop, Some, arith, rules}
use Rattle.std.proofs.lemmas.List.{length-drop}
use Rattle.wire.specs.Numbers.{number}
use Rattle.simpleperf.proofs.Sized.{enough}
use Rattle.simpleperf.proofs.tables.FilesListed.read.Goals as goal

pub returns-clause-takes : goal.returns-clause-takes
returns-clause-takes c =
    let reader = c.args.reader.now in
    let size : number reader.order 4 reader.rest.now ≡ Some c.in_ok-size.size = search rules in
    let after : length c.in_ok-rest.after.now ≡ length (drop 4 reader.rest.now) - c.in_ok-size.size = search rules in
    omega (arith, enough reader.order 4 c.in_ok-size.size reader.rest.now size, after, length-drop 4 reader.rest.now)
