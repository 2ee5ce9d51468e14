use Rattle.std.proofs.Common.{Ok, ap, ◌∙◌}
use Rattle.std.specs.Result.{result_from_control_flow}
use Rattle.put_facts.proofs.Telling.{writes_absent, writes_fault}
use Rattle.put_facts.proofs.told.put_answer.Goals as goal

pub returns-in_err-fact : goal.returns-in_err-fact
returns-in_err-fact g c =
    writes_fault g.T.Told.bytes _ c.from_residual.result
    (c.branch-fact.ensures ∙ ap result_from_control_flow c.in_err-fact.is) c.from_residual.ensures.1

pub returns-in_default : goal.returns-in_default
returns-in_default g c =
    writes_absent g.T.Told.bytes
    (c.branch-fact.ensures ∙ (ap result_from_control_flow c.in_ok-fact.is ∙ ap (λ x. Ok x) c.in_default.is))
