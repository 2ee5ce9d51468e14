use Rattle.std.proofs.Common.{◌≡◌, ℕ, ◌+◌, ◌-◌, ◌*◌, ◌≤◌, List, length, replicate, take, drop, ap, ◌∙◌, arith, rules}
use Rattle.std.proofs.lemmas.List.{length-replicate}
use Rattle.shelf.specs.Rows.{free, row_of}
use Rattle.shelf.specs.Contents.{Contents, put}
use Rattle.shelf.specs.Strips.{next_number}
use Rattle.shelf.proofs.Places.{on_strip, strip_room, strip_small, length-strip}
use Rattle.shelf.proofs.Changes.{lent_strip}
use Rattle.shelf.proofs.shelf.Shelf.clear.Goals as goal

pub overflow_mul-from : goal.overflow_mul-from
overflow_mul-from c = omega (arith, strip_small c.self.inside _ c.self.view_is c.args.i c.self.invariant c.requires)

pub overflow_add-from : goal.overflow_add-from
overflow_add-from c = omega (arith, strip_small c.self.inside _ c.self.view_is c.args.i c.self.invariant c.requires)

pub slice_bounds-fill-end : goal.slice_bounds-fill-end
slice_bounds-fill-end c =
    omega (arith, strip_room c.self.inside _ c.self.view_is c.args.i c.self.invariant c.requires, c.deref_mut.ensures.len)

pub offset_bounds-self-inside-i : goal.offset_bounds-self-inside-i
offset_bounds-self-inside-i c = omega (arith, on_strip c.self.inside _ c.self.view_is c.args.i c.requires, c.self.invariant.few)

pub bounds-self-inside-i : goal.bounds-self-inside-i
bounds-self-inside-i c = omega (arith, on_strip c.self.inside _ c.self.view_is c.args.i c.requires, c.self.invariant.few)

pub returns : goal.returns
returns c =
    let s = c.self.inside in
    let i = c.args.i in
    let from : ℕ = i * s.strip in
    let xs = c.deref_mut.result.now in
    let k : (from + s.strip) - from ≡ s.strip = omega arith in
    let is : s.strip ≡ c.args.self.now.strip = ap (λ (x : Contents). x.strip) c.self.view_is in
    let inside : from + ((from + s.strip) - from) ≤ length xs = omega (arith, strip_room s _ c.self.view_is i c.self.invariant c.requires, c.deref_mut.ensures.len) in
    let part : List ℕ = take ((from + s.strip) - from) (drop from xs) in
    let wiped : c.fill.new.self ≡ replicate (length part) 0 = search rules in
    let filled : c.fill.new.self ≡ replicate c.args.self.now.strip 0 = wiped ∙ ap (λ (n : ℕ). replicate n 0) (length-strip from _ xs inside ∙ k ∙ is) in
    let long : length c.fill.new.self ≡ s.strip = omega (arith, ap length filled, length-replicate {A = ℕ} c.args.self.now.strip 0) in
    lent_strip s.bytes s.strip s.strips (next_number s.next) _ s.groups free _ c.fill.new.self i c.deref_mut.ensures.value (on_strip s _ c.self.view_is i c.requires) (omega (arith, c.self.invariant.places, c.self.invariant.few)) c.self.invariant.room k long
    ∙ ap (λ (x : Contents). put x i (row_of free c.fill.new.self)) c.self.view_is
    ∙ ap (λ (b : List ℕ). put c.args.self.now i (row_of free b)) filled
