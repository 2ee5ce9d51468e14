use Rattle.std.proofs.Common.{Ok, sym, ap, ◌∙◌}
use Rattle.perf_data.specs.Questions.{mapped}
use Rattle.simpleperf.specs.Answers.{file_of, files_of}
use Rattle.simpleperf.specs.Numbered.{one_of}
use Rattle.simpleperf.specs.Tables.{sized_file}
use Rattle.simpleperf.proofs.Views.{nth-is}
use Rattle.simpleperf.proofs.questions.symbol_table.Goals as goal

pub returns : goal.returns
returns g c =
    ap Ok (nth-is file_of sized_file c.in-Some.tables c.nth.result c.nth.new.self c.args.k c.nth.ensures.ran)
    ∙ ap (one_of c.args.k) (ap (λ x. Ok (mapped files_of x)) (sym c.in-Some.is) ∙ c.in_ok-tables.ensures.is)
