use Rattle.std.proofs.Common.{Some, Ok, sym, ap, ◌∙◌}
use Rattle.std.specs.List.{slice_get}
use Rattle.perf_data.specs.Questions.{mapped}
use Rattle.simpleperf.specs.Answers.{file_of, info_of}
use Rattle.simpleperf.specs.Numbered.{of_file, offsets_in, offset_at}
use Rattle.simpleperf.specs.Tables.{u64_in}
use Rattle.simpleperf.proofs.Views.{nth-is}
use Rattle.simpleperf.proofs.questions.dex_offset.Goals as goal

pub returns-in-SimpleperfDexFileInfo : goal.returns-in-SimpleperfDexFileInfo
returns-in-SimpleperfDexFileInfo g c =
    let info = c.in-Some-type_specific_msg.is ∙ ap Some c.in-SimpleperfDexFileInfo.is in
    ap Ok (nth-is (λ n. n) u64_in c.in-SimpleperfDexFileInfo.dex.dex_file_offset c.nth.result c.nth.new.self c.args.i c.nth.ensures.ran)
    ∙ ap (λ m. Ok (slice_get (offsets_in (info_of m)) c.args.i)) (sym info)
    ∙ ap (of_file (offset_at c.args.i)) (ap (λ x. Ok (mapped file_of x)) (sym c.in-Some.is) ∙ c.in_ok-file.ensures)
