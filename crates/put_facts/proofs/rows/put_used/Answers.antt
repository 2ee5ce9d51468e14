use Rattle.std.proofs.Common.{take, Ok, ap, ◌∙◌}
use Rattle.std.specs.Result.{result_from_control_flow}
use Rattle.put_facts.specs.Items.{listed_bytes}
use Rattle.put_facts.proofs.Telling.{writes_absent, writes_fault}
use Rattle.put_facts.proofs.rows.put_used.Goals as goal

pub returns-in_err-n : goal.returns-in_err-n
returns-in_err-n g c =
    writes_fault (λ n. listed_bytes g.L.Line.front (g.L.Line.line c.args.line.now) (take n c.args.rows.now)) _ c.from_residual.result
    (c.branch-n.ensures ∙ ap result_from_control_flow c.in_err-n.is) c.from_residual.ensures.1

pub returns-in_default : goal.returns-in_default
returns-in_default g c =
    writes_absent (λ n. listed_bytes g.L.Line.front (g.L.Line.line c.args.line.now) (take n c.args.rows.now))
    (c.branch-n.ensures ∙ (ap result_from_control_flow c.in_ok-n.is ∙ ap (λ x. Ok x) c.in_default.is))
