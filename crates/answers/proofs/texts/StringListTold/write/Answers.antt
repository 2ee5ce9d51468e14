use Rattle.std.proofs.Common.{◌++◌, codes, refl, ap, ◌∙◌}
use Rattle.std.specs.String.{string_bytes}
use Rattle.std.specs.Fmt.{decimal}
use Rattle.std.specs.List.{flat_map}
use Rattle.std.proofs.lemmas.Iterator.Consumers.{YieldsList-from_first, count_from_yields_List}
use Rattle.hexadecimal.specs.Hex.{text_of}
use Rattle.perf_data.specs.Lists.{to_come}
use Rattle.answers.proofs.Appended.{in_a_row}
use Rattle.answers.proofs.Loops.{done}
use Rattle.answers.proofs.texts.StringListTold.write.Goals as goal

pub returns : goal.returns
returns c =
    let all = to_come c.args.self in
    let count = count_from_yields_List c.args.self c.count.result c.count.ensures.ran (YieldsList-from_first (λ t. t.now) to_come all refl) in
    in_a_row _ _ _ (codes "texts " ++ decimal c.count.result) (flat_map (λ t. codes " x" ++ text_of t) all) c.in_ok-write.ensures.bytes
    (done (λ t. codes " x" ++ text_of t) _ _ _ c.loop-text.invariant c.in-None.ensures.steps.0)
    ∙ ap (λ n. string_bytes c.args.out.now ++ (codes "texts " ++ (decimal n ++ flat_map (λ t. codes " x" ++ text_of t) all))) count
