use Rattle.std.proofs.Common.{◌≡◌, ◌-◌, ◌≤◌, length, drop}
use Rattle.perf_data.specs.Texts.{texts_in, first_fault}
use Rattle.perf_data.proofs.string_list.check_texts.Given as goal

abbrev pub invariant-loop : goal.invariant-loop
invariant-loop l =
    let s = l.section.bytes.now in
    (first_fault (texts_in 11 l.section.order (length s) l.count (drop 4 s)) ≡ first_fault (texts_in 11 l.section.order (length s) (l.count - l.counter) l.rest))
    × (length l.rest ≤ length s)
