use Rattle.std.proofs.Common.{sym}
use Rattle.std.proofs.lemmas.Bool.{cond-true, cond-false}
use Rattle.text_cases.proofs.verdict.Goals as goal

pub returns-then-well_formed : goal.returns-then-well_formed
returns-then-well_formed c = sym (cond-true _ _ _ (sym c.if-well_formed.ensures.test))

pub returns-else-well_formed : goal.returns-else-well_formed
returns-else-well_formed c = sym (cond-false _ _ _ (sym c.if-well_formed.ensures.test))
