use Rattle.std.proofs.Common.{Ok, sym, ap, ◌∙◌}
use Rattle.perf_data.specs.Questions.{mapped}
use Rattle.simpleperf.specs.Answers.{symbol_of, file_of}
use Rattle.simpleperf.specs.Numbered.{of_file, symbol_at}
use Rattle.simpleperf.specs.Tables.{symbol_in}
use Rattle.simpleperf.proofs.Views.{nth-is}
use Rattle.simpleperf.proofs.questions.symbol.Goals as goal

pub returns : goal.returns
returns g c =
    ap Ok (nth-is symbol_of symbol_in c.in-Some.file.symbol c.nth.result c.nth.new.self c.args.i c.nth.ensures.ran)
    ∙ ap (of_file (symbol_at c.args.i)) (ap (λ x. Ok (mapped file_of x)) (sym c.in-Some.is) ∙ c.in_ok-file.ensures)
