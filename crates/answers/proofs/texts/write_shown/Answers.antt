use Rattle.std.proofs.Common.{◌++◌, codes, ap, ◌∙◌}
use Rattle.std.specs.String.{string_bytes}
use Rattle.std.proofs.lemmas.Result.{on_ok_weaker}
use Rattle.text.specs.Showing.{to_come}
use Rattle.hexadecimal.specs.Hex.{text_of}
use Rattle.answers.proofs.Appended.{in_a_row}
use Rattle.answers.proofs.Drained.{drained}
use Rattle.answers.proofs.texts.write_shown.Goals as goal

pub returns : goal.returns
returns c = on_ok_weaker c.write_hex.result (λ w.
    in_a_row _ _ _ (codes "text x") (text_of w.0) c.in_ok-write.ensures.bytes w.2
    ∙ ap (λ given. string_bytes c.args.out.now ++ (codes "text x" ++ text_of given)) (drained to_come c.new.result w.0 w.1 ∙ c.new.ensures.form)) c.write_hex.ensures
