use Rattle.std.proofs.Common.{◌≡◌, rules, sym, ap, ◌∙◌, subst}
use Rattle.answers.specs.Read.{IsLine, IsNumberWord, first_word, other_words}
use Rattle.answers.specs.declared.line.Line.{Line}
use Rattle.answers.proofs.line.Line.read.Goals as goal

pub returns-in_err-number_of : goal.returns-in_err-number_of
returns-in_err-number_of c =
    let word : c.in_ok-number.number.now ≡ first_word (other_words (other_words c.args.text.now)) =
    c.in_ok-number.ensures.0 ∙ ap first_word (c.in_ok-order.ensures.1 ∙ ap other_words c.in_ok-question.ensures.1) in
    let none : (line : Line) → ¬ (IsLine c.args.text.now line) =
    λ line is. c.in_err-number_of.ensures line.number (subst (λ w. IsNumberWord w line.number) (sym word) is.2) in
    search (rules, none)
