use Rattle.std.proofs.Common.{rules, tests}
use Rattle.desk.specs.Requests.{IsFiling, IsLent}
use Rattle.desk.proofs.Turned.{turned_down, behind}
use Rattle.desk.proofs.request.FilingTryFromRefStr.try_from.Goals as goal

pub returns-in_err-lent : goal.returns-in_err-lent
returns-in_err-lent c =
    turned_down (IsFiling c.args.words.now) _ c.from_residual.ensures.0
    (λ f w. behind c.args.words.now IsLent _ c.first_word.result.1 c.map.result c.transpose.result _ c.map.ensures.cases (λ x r l. search (rules, tests)) c.first_word.ensures.others c.transpose.ensures c.in_err-lent.was f.lent w.2)
