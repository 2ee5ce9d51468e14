use Rattle.std.proofs.Common.{ℕ, List, sym, ap, ◌∙◌, subst}
use Rattle.desk.specs.Requests.{IsRequest, IsOpening, IsOptional, IsNumber, first_of}
use Rattle.desk.proofs.Numbers.{not_number, number_reads}
use Rattle.desk.proofs.Turned.{turned_down, only_open, only_show, behind}
use Rattle.desk.proofs.request.RequestTryFromRefStr.try_from.Goals as goal

pub returns-in_err-parse-in-open : goal.returns-in_err-parse-in-open
returns-in_err-parse-in-open c =
    turned_down (IsRequest c.args.line.now) _ c.from_residual-in_err-parse-in-open.ensures.0
    (only_open c.args.line.now (sym c.in_ok-name.ensures.0 ∙ c.in-open.is) (λ o w. c.in_err-parse-in-open.ensures.value o (subst (λ (b : List ℕ). IsOpening b o) (sym c.in_ok-name.ensures.1) w)))

pub returns-in_err-number-in-show : goal.returns-in_err-number-in-show
returns-in_err-number-in-show c =
    turned_down (IsRequest c.args.line.now) _ c.from_residual-in_err-number-in-show.ensures.0
    (only_show c.args.line.now (sym c.in_ok-name.ensures.0 ∙ c.in-show.is) (λ n room w v. not_number _ c.in_err-number-in-show.ensures.none n (subst (λ (b : List ℕ). IsNumber b n) (sym (c.first_word.ensures.first ∙ ap first_of c.in_ok-name.ensures.1)) w)))

pub returns-in_err-transpose-in-show : goal.returns-in_err-transpose-in-show
returns-in_err-transpose-in-show c =
    turned_down (IsRequest c.args.line.now) _ c.from_residual-in_err-transpose-in-show.ensures.0
    (only_show c.args.line.now (sym c.in_ok-name.ensures.0 ∙ c.in-show.is) (λ n room w v. behind c.in_ok-name.words.now IsNumber _ c.first_word.result.1 c.map.result c.transpose.result _ c.map.ensures.cases (λ x r l. number_reads x.now r l.0 l.1.0 l.1.1) c.first_word.ensures.others c.transpose.ensures c.in_err-transpose-in-show.was room (subst (λ (b : List ℕ). IsOptional b room) (sym c.in_ok-name.ensures.1) v)))
