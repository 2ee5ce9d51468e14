use Rattle.std.proofs.Common.{◌≡◌, ℕ, ◌+◌, ◌-◌, ◌*◌, ◌≤◌, List, length, take, drop, vec_items, sym, ap, ◌∙◌, arith, rules}
use borrow.Rule.Slice.PartMut.{put_mid}
use Rattle.std.specs.Vec.{with_items}
use Rattle.facts.specs.Head.{head_of, fitted}
use Rattle.shelf.specs.declared.shelf.Group.{Group}
use Rattle.shelf.specs.Rows.{row_of}
use Rattle.shelf.specs.Contents.{Contents, put, handed_out}
use Rattle.shelf.specs.Strips.{next_number, contents_of}
use Rattle.shelf.specs.Keeping.{kept_at}
use Rattle.shelf.proofs.Places.{on_strip, strip_room, strip_small, length-strip}
use Rattle.shelf.proofs.Changes.{lent_strip, lent_same, kept, not_kept}
use Rattle.shelf.proofs.shelf.Shelf.keep.Goals as goal

pub overflow_mul-from : goal.overflow_mul-from
overflow_mul-from g c = omega (arith, strip_small c.self.inside _ c.self.view_is c.args.i c.self.invariant c.requires.place)

pub overflow_add-from : goal.overflow_add-from
overflow_add-from g c = omega (arith, strip_small c.self.inside _ c.self.view_is c.args.i c.self.invariant c.requires.place)

pub slice_bounds-fill_strip-end : goal.slice_bounds-fill_strip-end
slice_bounds-fill_strip-end g c =
    omega (arith, strip_room c.self.inside _ c.self.view_is c.args.i c.self.invariant c.requires.place, c.deref_mut.ensures.len)

pub offset_bounds-self-inside-i : goal.offset_bounds-self-inside-i
offset_bounds-self-inside-i g c = omega (arith, on_strip c.self.inside _ c.self.view_is c.args.i c.requires.place, c.self.invariant.few)

pub bounds-self-inside-i : goal.bounds-self-inside-i
bounds-self-inside-i g c = omega (arith, on_strip c.self.inside _ c.self.view_is c.args.i c.requires.place, c.self.invariant.few)

pub returns-in_err-len-clause-after : goal.returns-in_err-len-clause-after
returns-in_err-len-clause-after g c =
    let s = c.self.inside in
    let i = c.args.i in
    let from : ℕ = i * s.strip in
    let xs = c.deref_mut.result.now in
    let k : (from + s.strip) - from ≡ s.strip = omega arith in
    let is : s.strip ≡ c.args.self.now.strip = ap (λ (x : Contents). x.strip) c.self.view_is in
    let inside : from + ((from + s.strip) - from) ≤ length xs = omega (arith, strip_room s _ c.self.view_is i c.self.invariant c.requires.place, c.deref_mut.ensures.len) in
    let part : List ℕ = take ((from + s.strip) - from) (drop from xs) in
    let head = head_of (length c.args.rows.now) (g.S.Store.endian c.args.store.now) (g.S.Store.map c.args.store.now).at in
    let none = not_kept c.args.self.now i _ (fitted (length part) head) part c.fill_strip.new.strip c.in_err-len.ensures.answer c.fill_strip.ensures.after in
    ap (λ (b : List ℕ). contents_of s.strip s.strips (next_number s.next) s.groups (vec_items (with_items s.bytes (put_mid from ((from + s.strip) - from) xs b)))) none.0
    ∙ ap (contents_of s.strip s.strips (next_number s.next) s.groups) (lent_same s.bytes from ((from + s.strip) - from) xs c.deref_mut.ensures.value)
    ∙ c.self.view_is
    ∙ sym none.1
    ∙ ap (λ (n : ℕ). kept_at c.args.self.now i (fitted n head)) (length-strip from _ xs inside ∙ k ∙ is)

pub returns-clause-after : goal.returns-clause-after
returns-clause-after g c =
    let s = c.self.inside in
    let i = c.args.i in
    let from : ℕ = i * s.strip in
    let xs = c.deref_mut.result.now in
    let new = c.fill_strip.new.strip in
    let k : (from + s.strip) - from ≡ s.strip = omega arith in
    let is : s.strip ≡ c.args.self.now.strip = ap (λ (x : Contents). x.strip) c.self.view_is in
    let inside : from + ((from + s.strip) - from) ≤ length xs = omega (arith, strip_room s _ c.self.view_is i c.self.invariant c.requires.place, c.deref_mut.ensures.len) in
    let part : List ℕ = take ((from + s.strip) - from) (drop from xs) in
    let short : length part ≡ s.strip = length-strip from _ xs inside ∙ k in
    let head = head_of (length c.args.rows.now) (g.S.Store.endian c.args.store.now) (g.S.Store.map c.args.store.now).at in
    let next : next_number c.checked_add-self-inside.result ≡ c.args.number + 1 = search rules in
    let number : c.args.number ≡ next_number s.next = c.requires.number ∙ ap (λ (x : Contents). x.next) (sym c.self.view_is) in
    let group : Group = record { number = c.args.number; count = 1; len = c.in_ok-len.len } in
    lent_strip s.bytes s.strip s.strips (next_number c.checked_add-self-inside.result) _ s.groups group _ new i c.deref_mut.ensures.value (on_strip s _ c.self.view_is i c.requires.place) (omega (arith, c.self.invariant.places, c.self.invariant.few)) c.self.invariant.room k (c.fill_strip.auto.strip ∙ short)
    ∙ ap (λ (n : ℕ). put (contents_of s.strip s.strips n s.groups (vec_items s.bytes)) i (row_of group new)) next
    ∙ ap (λ (n : ℕ). handed_out (put (contents_of s.strip s.strips n s.groups (vec_items s.bytes)) i (row_of group new))) number
    ∙ ap (λ (x : Contents). handed_out (put x i (row_of group new))) c.self.view_is
    ∙ ap (λ (n : ℕ). handed_out (put c.args.self.now i (row_of (record { number = n; count = 1; len = c.in_ok-len.len }) new))) c.requires.number
    ∙ kept c.args.self.now i c.in_ok-len.len (fitted (length part) head) part new (short ∙ is) c.in_ok-len.ensures.answer c.fill_strip.ensures.after
    ∙ ap (λ (n : ℕ). kept_at c.args.self.now i (fitted n head)) (short ∙ is)
