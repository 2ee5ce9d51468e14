use Rattle.std.proofs.Common.{◌≡◌, ◌++◌, List, ◌∷◌, codes, map, sym, ap, ◌∙◌}
use Rattle.std.specs.String.{string_bytes}
use Rattle.std.proofs.lemmas.Simd.{map-map}
use Rattle.std.proofs.lemmas.Result.{on_ok_weaker}
use Rattle.simpleperf.specs.Answers.{symbol_of}
use Rattle.simpleperf.specs.Tables.{Symbol}
use Rattle.answers.specs.Texts.{joined, symbol_text, symbols_text}
use Rattle.answers.proofs.symbols.write_symbols.Goals as goal

-- where there are some
some : (all : List Symbol) (s : Symbol) (ss : List Symbol) → all ≡ s ∷ ss → joined (codes ";") (map symbol_text all) ≡ symbols_text all
some all s ss e = ap (λ a. joined (codes ";") (map symbol_text a)) e ∙ sym (ap symbols_text e)

pub returns : goal.returns
returns c = on_ok_weaker c.write_list.result (λ w.
    w.2 ∙ ap (λ t. string_bytes c.args.out.now ++ t)
    (ap (joined (codes ";")) (sym (map-map symbol_text symbol_of w.0))
    ∙ (ap (λ all. joined (codes ";") (map symbol_text all)) w.1
    ∙ some _ _ _ c.in-Some.ensures.steps))) c.write_list.ensures
