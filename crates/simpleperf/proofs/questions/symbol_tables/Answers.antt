use Rattle.std.proofs.Common.{◌≡◌, rules}
use Rattle.perf_data.specs.Questions.{question, answered}
use Rattle.simpleperf.specs.Answers.{files_of}
use Rattle.simpleperf.specs.Tables.{symbol_tables}
use Rattle.simpleperf.proofs.Consecutive.{records-fill}
use Rattle.simpleperf.proofs.questions.symbol_tables.Goals as goal

pub returns-clause-records : goal.returns-clause-records
returns-clause-records g c =
    let o = g.S.Store.endian c.args.store.now in
    let section = (g.S.Store.map c.args.store.now).at 128 in
    let is : answered files_of c.transpose.result ≡ question symbol_tables o section = search rules in
    records-fill o section (answered files_of c.transpose.result) is
