use Rattle.std.proofs.Common.{ℕ, ◌*◌, List, take, drop, ap, ◌∙◌, arith}
use Rattle.shelf.proofs.Places.{strip_room, strip_small, head_within, head_on}
use Rattle.shelf.proofs.shelf.Shelf.head_at.Goals as goal

pub overflow_mul-from : goal.overflow_mul-from
overflow_mul-from c = omega (arith, strip_small c.self.inside _ c.self.view_is c.args.held.place c.self.invariant c.requires.place)

pub overflow_add-result : goal.overflow_add-result
overflow_add-result c =
    let s = c.self.inside in
    omega (arith, strip_small s _ c.self.view_is c.args.held.place c.self.invariant c.requires.place, head_within s _ c.self.view_is c.args.held.place c.self.invariant c.requires.place, c.requires.head)

pub slice_bounds-result-end : goal.slice_bounds-result-end
slice_bounds-result-end c =
    let s = c.self.inside in
    omega (arith, strip_room s _ c.self.view_is c.args.held.place c.self.invariant c.requires.place, head_within s _ c.self.view_is c.args.held.place c.self.invariant c.requires.place, c.requires.head, c.deref.ensures.len)

pub returns : goal.returns
returns c =
    let s = c.self.inside in
    let from : ℕ = c.args.held.place * s.strip in
    ap (λ (n : ℕ). take n (drop from c.deref.result.now)) (omega arith)
    ∙ ap (λ (b : List ℕ). take c.args.held.group.len (drop from b)) c.deref.ensures.value
    ∙ head_on s _ c.self.view_is c.args.held.place c.args.held.group c.self.invariant c.requires
