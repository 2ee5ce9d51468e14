use Rattle.std.proofs.Common.{◌≡◌, ap, ◌∙◌}
use Rattle.shelf.specs.Contents.{Contents}
use Rattle.shelf.specs.Calls.{file_answer, file_after}
use Rattle.desk.specs.Calls.{head_filed, filed_answer, filed_after}
use Rattle.desk.proofs.Filed.{filed_is}
use Rattle.desk.proofs.desk.Desk.file.Goals as goal

pub invariant_of-self : goal.invariant_of-self
invariant_of-self c = record { rows = c.self.invariant.rows; work = c.self.invariant.work }

pub returns-clause-answer : goal.returns-clause-answer
returns-clause-answer c =
    let head = filed_is c.self.inside.shelf c.args.filing.lent c.unwrap_or-lent.result c.args.image.now _ _ _ _ c.unwrap_or-lent.ensures (c.deref_mut.ensures.len ∙ c.self.invariant.rows) (c.deref_mut-2.ensures.len ∙ c.self.invariant.work) c.in_ok-store.ensures.means in
    c.file_store.ensures.answer
    ∙ (ap (file_answer c.self.inside.shelf) head
    ∙ ap (λ (x : Contents). filed_answer x c.args.filing.lent c.args.image.now) c.self.view_is)

pub returns-clause-after : goal.returns-clause-after
returns-clause-after c =
    let head = filed_is c.self.inside.shelf c.args.filing.lent c.unwrap_or-lent.result c.args.image.now _ _ _ _ c.unwrap_or-lent.ensures (c.deref_mut.ensures.len ∙ c.self.invariant.rows) (c.deref_mut-2.ensures.len ∙ c.self.invariant.work) c.in_ok-store.ensures.means in
    c.file_store.ensures.after
    ∙ (ap (file_after c.self.inside.shelf) head
    ∙ ap (λ (x : Contents). filed_after x c.args.filing.lent c.args.image.now) c.self.view_is)
