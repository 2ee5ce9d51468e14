use Rattle.std.proofs.Common.{◌≡◌, ℕ, List, ◌++◌, codes, Some, None, Option, sym, refl, ap, ◌∙◌, append_assoc}
use Rattle.std.specs.String.{string_bytes}
use Rattle.std.specs.Option.{option_map, unwrap_or}
use Rattle.std.proofs.lemmas.Result.{on_ok_weaker}
use Rattle.hexadecimal.specs.Hex.{text_of}
use Rattle.dso_key.specs.Keys.{key_of, kernel}
use Rattle.dso_key.specs.declared.dso_key.DsoKey.{DsoKey}
use Rattle.dso_key.specs.declared.dso_key.DsoKey.TheVariants.{Kernel}
use Rattle.answers.specs.Texts.{named_text}
use Rattle.answers.proofs.Appended.{in_a_row}
use Rattle.answers.proofs.rows.write_build.Goals as goal

or_kernel : (key : Option DsoKey) → key_of (unwrap_or key Kernel) ≡ unwrap_or (option_map key_of key) kernel
or_kernel None = refl
or_kernel (Some key) = refl

grouped : (n a p b i : List ℕ) → n ++ (a ++ (p ++ (b ++ i))) ≡ n ++ a ++ p ++ b ++ i
grouped n a p b i =
    sym (append_assoc (n ++ a ++ p) b i ∙ (append_assoc (n ++ a) p (b ++ i) ∙ append_assoc n a (p ++ (b ++ i))))

pub returns : goal.returns
returns c = on_ok_weaker c.write-2.result (λ e.
    let section = c.args.builds.section.now in
    let row = c.args.row.now in
    let key = ap key_of c.unwrap_or-key.ensures ∙ (or_kernel c.key.result ∙ ap (λ k. unwrap_or k kernel) c.key.ensures) in
    let path = text_of c.path.result.now in
    let id = text_of c.id.result.now in
    let x = codes ":x" in
    in_a_row _ _ _ (codes " " ++ named_text (codes ":") (key_of c.unwrap_or-key.result)) (x ++ (path ++ (x ++ id))) (in_a_row _ _ _ (codes " ") _ c.in_ok-write.ensures.bytes c.in_ok-write_key.ensures) e
    ∙ ap (λ t. string_bytes c.args.out.now ++ (codes " " ++ t))
    (grouped (named_text (codes ":") (key_of c.unwrap_or-key.result)) x path x id
    ∙ (λ i. named_text (codes ":") (key i) ++ x ++ text_of (c.path.ensures i) ++ x ++ text_of (c.id.ensures i)))) c.write-2.ensures.bytes
