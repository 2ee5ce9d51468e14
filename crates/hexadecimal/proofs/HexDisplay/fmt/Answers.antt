use Rattle.std.proofs.Common.{◌<◌, get_or, sym, ap, rules}
use Rattle.std.proofs.Output.{has_written_append, has_written_of_eq}
use Rattle.std.specs.Result.{is_ok}
use Rattle.std.specs.Fmt.{styled_digits_output}
use Rattle.hexadecimal.proofs.Shown.{text_more, writes_pair}
use Rattle.hexadecimal.proofs.HexDisplay.fmt.Goals as goal

pub loop-byte-preserved : goal.loop-byte-preserved
loop-byte-preserved g c = λ plain.
    let so_far = c.loop-byte.invariant plain in
    let small : get_or c.args.self.now.0.now c.loop-byte.byte-index 0 < 256 = search rules in
    let byte = writes_pair _ _ _ _ _ _ _ small (ap (styled_digits_output c.in_radix.result) c.laid_out.ensures) c.in_radix.ensures c.write.ensures.writes so_far.plain (ap is_ok c.in_ok-write.was) in
    has_written_of_eq _ _ _ _ _ (sym (text_more _ _ c.loop-byte-test.true)) (has_written_append _ _ _ _ _ _ so_far byte)
