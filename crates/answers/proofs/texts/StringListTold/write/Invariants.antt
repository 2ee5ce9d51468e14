use Rattle.std.proofs.Common.{◌≡◌, ℕ, List, ◌++◌, codes}
use Rattle.std.specs.String.{string_bytes}
use Rattle.std.specs.List.{flat_map}
use Rattle.hexadecimal.specs.Hex.{text_of}
use Rattle.perf_data.specs.Lists.{to_come}
use Rattle.perf_data.specs.declared.string_list.StringList.{StringList}
use Rattle.answers.proofs.texts.StringListTold.write.Given as goal

-- what is written, and then the texts to come
abbrev pub invariant-loop-text : goal.invariant-loop-text
invariant-loop-text l =
    let ahead : StringList → List ℕ = λ list. flat_map (λ t. codes " x" ++ text_of t) (to_come list) in
    string_bytes l.out ++ ahead l.text-iterator ≡ string_bytes l.initial.out ++ ahead l.fn.self
