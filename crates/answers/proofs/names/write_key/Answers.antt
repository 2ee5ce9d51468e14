use Rattle.std.proofs.Common.{◌++◌, codes, sym, ap, ◌∙◌, append_assoc}
use Rattle.std.specs.String.{string_bytes}
use Rattle.std.proofs.lemmas.Result.{on_ok_weaker}
use Rattle.dso_key.specs.Kinds.{kind_name, kind_of}
use Rattle.dso_key.specs.Keys.{key_of}
use Rattle.dso_key.specs.Names.{to_come}
use Rattle.hexadecimal.specs.Hex.{text_of}
use Rattle.answers.proofs.Appended.{in_a_row}
use Rattle.answers.proofs.Drained.{drained}
use Rattle.answers.proofs.names.write_key.Goals as goal

pub returns : goal.returns
returns c = on_ok_weaker c.write_hex.result (λ w.
    let between = c.args.between.now in
    let kind = kind_name c.kind.result in
    let name = text_of w.0 in
    in_a_row _ _ _ (kind ++ (between ++ codes "x")) name c.in_ok-write.ensures.bytes w.2
    ∙ ap (λ t. string_bytes c.args.out.now ++ t)
    (ap (λ t. t ++ name) (sym (append_assoc kind between (codes "x")))
    ∙ (ap (λ k. kind_name k ++ between ++ codes "x" ++ name) c.kind.ensures
    ∙ ap (λ given. kind_name (kind_of (key_of c.args.key)) ++ between ++ codes "x" ++ text_of given) (drained to_come c.name.result w.0 w.1 ∙ c.name.ensures)))) c.write_hex.ensures
