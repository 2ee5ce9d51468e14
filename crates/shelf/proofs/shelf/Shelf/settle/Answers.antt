use Rattle.std.proofs.Common.{◌≡◌, Ok, sym, refl, ap, ◌∙◌, arith}
use Rattle.shelf.specs.Contents.{Contents}
use Rattle.shelf.specs.Strips.{next_number}
use Rattle.shelf.specs.Keeping.{kept_at, number_if}
use Rattle.shelf.proofs.Seats.{anew_place, filed_anew}
use Rattle.shelf.proofs.shelf.Shelf.settle.Goals as goal

pub keep-requires : goal.keep-requires
keep-requires g c κs =
    let number : c.in_ok-number.number ≡ c.args.self.now.next = sym (ap next_number c.in_ok-number.ensures.ok_part) ∙ ap (λ (k : Contents). k.next) c.self.view_is in
    ((refl, tt), (anew_place c.args.self.now c.args.head.now c.in_ok-i.i c.in_default.ensures (sym c.free_place.ensures ∙ c.in_ok-i.ensures.ok_part), number))

pub returns-clause-answer : goal.returns-clause-answer
returns-clause-answer g c =
    let old = c.args.self.now in
    let number : c.in_ok-number.number ≡ old.next = sym (ap next_number c.in_ok-number.ensures.ok_part) ∙ ap (λ (k : Contents). k.next) c.self.view_is in
    c.keep.ensures.answer
    ∙ ap (number_if c.in_ok-number.number) c.requires.made
    ∙ ap Ok number
    ∙ (filed_anew old c.args.head.now c.in_ok-i.i c.in_default.ensures (sym c.free_place.ensures ∙ c.in_ok-i.ensures.ok_part) (omega (arith, number))).0

pub returns-clause-after : goal.returns-clause-after
returns-clause-after g c =
    let old = c.args.self.now in
    let number : c.in_ok-number.number ≡ old.next = sym (ap next_number c.in_ok-number.ensures.ok_part) ∙ ap (λ (k : Contents). k.next) c.self.view_is in
    c.keep.ensures.after
    ∙ ap (kept_at old c.in_ok-i.i) c.requires.made
    ∙ (filed_anew old c.args.head.now c.in_ok-i.i c.in_default.ensures (sym c.free_place.ensures ∙ c.in_ok-i.ensures.ok_part) (omega (arith, number))).1
