use Rattle.std.proofs.Common.{length, sym, ap, arith}
use Rattle.std.proofs.lemmas.List.{length-drop}
use Rattle.text.proofs.Headers.{header_text_told}
use Rattle.mappings.proofs.pmu_mappings.read_item.Goals as goal

pub overflow_cast-row-in-Ok : goal.overflow_cast-row-in-Ok
overflow_cast-row-in-Ok c =
    let told = header_text_told c.args.section.order c.tail-text.result.now _ (sym c.in-Ok.ensures.is) in
    omega (arith, told.short, ap length c.tail-text.ensures, length-drop 4 c.args.rest.now)
