use Rattle.std.proofs.Common.{ℕ, List, sym, subst}
use Rattle.desk.specs.Requests.{IsLent, IsNumber}
use Rattle.desk.proofs.Numbers.{not_number}
use Rattle.desk.proofs.Turned.{turned_down}
use Rattle.desk.proofs.request.LentFromStr.from_str.Goals as goal

pub returns-in_err-work : goal.returns-in_err-work
returns-in_err-work c =
    turned_down (IsLent c.args.words.now) _ c.from_residual-in_err-work.ensures.0
    (λ l w. not_number c.in_ok-rows.work.now c.in_err-work.ensures.none l.work (subst (λ (b : List ℕ). IsNumber b l.work) (sym c.in_ok-rows.ensures.1) w.1))
