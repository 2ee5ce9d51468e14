use Rattle.shelf.specs.Histories.Event.{filed}
use Rattle.shelf.proofs.Law.{continues}
use Rattle.head_laws.proofs.Stands.{heads_speak}
use Rattle.shelf.proofs.shelf.Shelf.file.Goals as goal

pub returns-clause-law : goal.returns-clause-law
returns-clause-law g c = continues heads_speak _ (filed _ _) _ (c.take_in-number.ensures.answer, c.take_in-number.ensures.after)
