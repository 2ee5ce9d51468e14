use Rattle.std.proofs.Common.{get_or, vec_items, sym, ap, ◌∙◌, arith}
use Rattle.shelf.specs.declared.shelf.Group.{Group}
use Rattle.shelf.specs.Rows.{Row, free, strip_at, row_of}
use Rattle.shelf.specs.Contents.{Contents, put}
use Rattle.shelf.specs.Strips.{next_number}
use Rattle.shelf.specs.Calls.{recount}
use Rattle.shelf.proofs.Places.{on_strip, row_on}
use Rattle.shelf.proofs.Changes.{regrouped}
use Rattle.shelf.proofs.shelf.Shelf.recount.Goals as goal

pub returns : goal.returns
returns c =
    let s = c.self.inside in
    let i = c.args.held.place in
    let x = get_or s.groups i free in
    let l = on_strip s _ c.self.view_is i c.requires.place in
    let g : Group = record { number = x.number; count = c.args.count; len = x.len } in
    regrouped s.strip s.strips (next_number s.next) s.groups g (vec_items s.bytes) i l (omega (arith, c.self.invariant.places, c.self.invariant.few))
    ∙ ap (λ (k : Contents). put k i (row_of g (strip_at s.strip (vec_items s.bytes) i))) c.self.view_is
    ∙ ap (λ (r : Row). put c.args.self.now i (recount r c.args.count)) (sym (row_on s _ c.self.view_is i l))
