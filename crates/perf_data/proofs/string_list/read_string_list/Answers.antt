use Rattle.std.proofs.Common.{ℕ, List, length, drop, Ok, sym, ap, ◌∙◌}
use Rattle.perf_data.specs.Texts.{counted, readable}
use Rattle.perf_data.proofs.Reading.{texts-read}
use Rattle.perf_data.proofs.string_list.read_string_list.Goals as goal

pub returns : goal.returns
returns c =
    let s : List ℕ = c.args.section.bytes.now in
    let clean = sym c.in_ok-check_texts.ensures in
    let count = c.in_ok-count.count in
    ap (λ t. Ok (readable c.args.section.order count t)) c.tail.ensures
    ∙ sym (ap (counted c.args.section.order s) (sym c.u32.ensures.is ∙ c.in_ok-count.ensures.ok_part) ∙ texts-read 11 c.args.section.order (length s) count (drop 4 s) clean)
