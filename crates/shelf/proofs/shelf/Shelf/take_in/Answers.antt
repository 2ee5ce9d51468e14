use Rattle.std.proofs.Common.{length, sym, refl, ap, ◌∙◌}
use Rattle.table.specs.Rows.{blanks}
use Rattle.facts.specs.Head.{head_of, fitted}
use Rattle.shelf.specs.Calls.{file_answer, file_after}
use Rattle.shelf.proofs.Rooms.{head_taken, made_fits}
use Rattle.shelf.proofs.shelf.Shelf.take_in.Goals as goal

pub settle-requires : goal.settle-requires
settle-requires g c κs =
    let now = c.args.self.now in
    let made = head_taken _ c.in_ok-len.len c.make_head.new.work c.in_ok-len.ensures.answer c.make_head.ensures.made in
    let fits = (made_fits now (length c.args.work.now) _ _ (sym made)).0 in
    let long = c.make_head.auto.rows in
    ((refl, tt), (ap (λ n. fitted now.strip (head_of n (g.S.Store.endian c.args.store.now) (g.S.Store.map c.args.store.now).at)) long ∙ fits, c.make_head.ensures.rows ∙ ap blanks (sym long)))

pub returns-clause-answer : goal.returns-clause-answer
returns-clause-answer g c =
    c.settle.ensures.answer ∙ ap (file_answer c.args.self.now) (head_taken _ c.in_ok-len.len c.make_head.new.work c.in_ok-len.ensures.answer c.make_head.ensures.made)

pub returns-clause-after : goal.returns-clause-after
returns-clause-after g c =
    c.settle.ensures.after ∙ ap (file_after c.args.self.now) (head_taken _ c.in_ok-len.len c.make_head.new.work c.in_ok-len.ensures.answer c.make_head.ensures.made)
