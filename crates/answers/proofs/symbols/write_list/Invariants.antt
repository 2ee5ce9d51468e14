use Rattle.std.proofs.Common.{◌≡◌, ◌++◌, map}
use Rattle.std.specs.String.{string_bytes}
use Rattle.std.specs.List.{flat_map}
use Rattle.simpleperf.specs.Lists.{to_come}
use Rattle.answers.proofs.symbols.write_list.Given as goal

-- the items so far are written, and are what was to come but for what is
abbrev pub invariant-loop-item : goal.invariant-loop-item
invariant-loop-item g l =
    (string_bytes l.out ≡ string_bytes l.initial.out ++ flat_map (λ x. l.mark ++ g.K.Item.Told.text x) l.yielded)
    × (map g.K.Listed.value l.yielded ++ to_come g.K.Listed.reading l.item-iterator ≡ to_come g.K.Listed.reading l.initial.item-iterator)
