use Rattle.std.proofs.Common.{ap, ◌∙◌}
use Rattle.image.specs.Index.{section_in}
use Rattle.image.specs.Kinds.{index_of}
use Rattle.shelf.specs.Calls.{file_answer, file_after}
use Rattle.desk.proofs.Filed.{lent_is}
use Rattle.desk.proofs.desk.file_store.Goals as goal

pub returns-clause-answer : goal.returns-clause-answer
returns-clause-answer c =
    c.file.ensures.answer
    ∙ ap (file_answer c.args.shelf.now)
    (lent_is c.args.shelf.now c.args.lent (index_of c.args.store.now).order (section_in (index_of c.args.store.now)) _ _ c.args.rows.now c.args.work.now c.min-given.ensures c.min-space.ensures)

pub returns-clause-after : goal.returns-clause-after
returns-clause-after c =
    c.file.ensures.after
    ∙ ap (file_after c.args.shelf.now)
    (lent_is c.args.shelf.now c.args.lent (index_of c.args.store.now).order (section_in (index_of c.args.store.now)) _ _ c.args.rows.now c.args.work.now c.min-given.ensures c.min-space.ensures)
