use Rattle.std.proofs.Common.{◌≡◌, ◌++◌}
use Rattle.std.specs.String.{string_bytes}
use Rattle.std.specs.List.{flat_map}
use Rattle.simpleperf.specs.Answers.{files_of}
use Rattle.answers.specs.Texts.{file_text}
use Rattle.answers.proofs.symbols.SymbolTablesTold.write.Given as goal

-- what is written, and then the files to come
abbrev pub invariant-loop-file : goal.invariant-loop-file
invariant-loop-file l =
    string_bytes l.out ++ flat_map file_text (files_of l.file-iterator) ≡ string_bytes l.initial.out ++ flat_map file_text (files_of l.fn.self)
