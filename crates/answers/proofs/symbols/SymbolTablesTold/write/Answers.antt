use Rattle.std.proofs.Common.{◌++◌, codes, refl, ap, ◌∙◌}
use Rattle.std.specs.String.{string_bytes}
use Rattle.std.specs.Fmt.{decimal}
use Rattle.std.specs.List.{flat_map}
use Rattle.std.proofs.lemmas.Iterator.Consumers.{YieldsList-from_first, count_from_yields_List}
use Rattle.simpleperf.specs.Answers.{file_of, files_of}
use Rattle.answers.specs.Texts.{file_text}
use Rattle.answers.proofs.Appended.{in_a_row}
use Rattle.answers.proofs.Loops.{done}
use Rattle.answers.proofs.symbols.SymbolTablesTold.write.Goals as goal

pub returns : goal.returns
returns c =
    let all = files_of c.args.self in
    let count = count_from_yields_List c.args.self c.count.result c.count.ensures.ran (YieldsList-from_first file_of files_of all refl) in
    in_a_row _ _ _ (codes "records " ++ decimal c.count.result) (flat_map file_text all) c.in_ok-write.ensures.bytes
    (done file_text _ _ _ c.loop-file.invariant c.in-None.ensures.steps.0)
    ∙ ap (λ n. string_bytes c.args.out.now ++ (codes "records " ++ (decimal n ++ flat_map file_text all))) count
