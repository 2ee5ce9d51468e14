use Rattle.std.proofs.Common.{sym, ap, ◌∙◌}
use Rattle.text.specs.States.{after_all}
use Rattle.text.proofs.Through.{broken, ended}
use Rattle.text.proofs.pieces.goes_through.Goals as goal

pub returns-then-run : goal.returns-then-run
returns-then-run c =
    c.is_start.ensures ∙ ended c.args.bytes.now _ (ap (λ w. after_all w c.args.bytes.now) (sym c.new-machine.ensures) ∙ c.if-run.ensures)

pub returns-else-run : goal.returns-else-run
returns-else-run c =
    c.if-run.false ∙ broken c.args.bytes.now (ap (λ w. after_all w c.args.bytes.now) (sym c.new-machine.ensures) ∙ c.if-run.ensures)
