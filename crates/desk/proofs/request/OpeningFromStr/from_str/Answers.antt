use Rattle.std.proofs.Common.{ℕ, List, sym, ap, ◌∙◌, subst}
use Rattle.desk.specs.Requests.{IsOpening, IsNumber, first_of, others_of}
use Rattle.desk.proofs.Numbers.{not_number}
use Rattle.desk.proofs.Turned.{turned_down}
use Rattle.desk.proofs.request.OpeningFromStr.from_str.Goals as goal

pub returns-in_err-number-2 : goal.returns-in_err-number-2
returns-in_err-number-2 c =
    turned_down (IsOpening c.args.words.now) _ c.from_residual-in_err-number-2.ensures.0
    (λ o w. not_number c.in_ok-first.first.now c.in_err-number-2.ensures.none o.first (subst (λ (b : List ℕ). IsNumber b o.first) (sym (c.in_ok-first.ensures.0 ∙ ap first_of c.in_ok-strip.ensures.1)) w.1))

pub returns-in_err-number-3 : goal.returns-in_err-number-3
returns-in_err-number-3 c =
    turned_down (IsOpening c.args.words.now) _ c.from_residual-in_err-number-3.ensures.0
    (λ o w. not_number c.in_ok-first.bytes.now c.in_err-number-3.ensures.none o.bytes (subst (λ (b : List ℕ). IsNumber b o.bytes) (sym (c.in_ok-first.ensures.1 ∙ ap others_of c.in_ok-strip.ensures.1)) w.2))
