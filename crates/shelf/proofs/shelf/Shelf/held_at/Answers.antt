use Rattle.std.proofs.Common.{◌<◌, sym, refl, ap, ◌∙◌, subst, arith}
use Rattle.std.proofs.lemmas.Bool.{eqb-true, eqb-false}
use Rattle.std.proofs.lemmas.List.{get_or_past, get_or-take, length-take-le}
use Rattle.shelf.specs.declared.shelf.Group.{Group}
use Rattle.shelf.specs.Rows.{Row, free}
use Rattle.shelf.specs.Contents.{blank}
use Rattle.shelf.specs.Stands.{HeldAt}
use Rattle.shelf.proofs.Places.{rows_length, free_at, stands}
use Rattle.shelf.proofs.shelf.Shelf.held_at.Goals as goal

-- past the last place there is no group
pub returns-in_err-group : goal.returns-in_err-group
returns-in_err-group c =
    let s = c.self.inside in
    let past = c.in_err-group.ensures.lookup.3 in
    subst (HeldAt c.args.self.now c.args.i) (sym c.from_residual.ensures)
    (ap (λ (r : Row). r.number) (get_or_past c.args.self.now.rows c.args.i (blank 0) (omega (arith, past, rows_length s _ c.self.view_is, length-take-le s.strips s.groups (omega (arith, c.self.invariant.few, c.self.invariant.places))))))

pub returns-then-is_free : goal.returns-then-is_free
returns-then-is_free c =
    let s = c.self.inside in
    let here = c.in_ok-group.ensures.lookup.3 in
    let l : c.args.i < s.strips = omega (arith, here.0, length-take-le s.strips s.groups (omega (arith, c.self.invariant.few, c.self.invariant.places))) in
    free_at s _ c.self.view_is c.args.i l (ap (λ (x : Group). x.number) (sym (here.1 free ∙ get_or-take s.strips s.groups c.args.i free l)) ∙ eqb-true c.in_ok-group.field-0.now.number 0 (sym c.is_free.ensures ∙ c.if-is_free.true))

pub returns : goal.returns
returns c =
    let s = c.self.inside in
    let here = c.in_ok-group.ensures.lookup.3 in
    let l : c.args.i < s.strips = omega (arith, here.0, length-take-le s.strips s.groups (omega (arith, c.self.invariant.few, c.self.invariant.places))) in
    let some = eqb-false c.in_ok-group.field-0.now.number 0 (sym c.is_free.ensures ∙ c.if-is_free.false) in
    (refl, stands s _ c.self.view_is c.args.i _ c.self.invariant l (sym (here.1 free ∙ get_or-take s.strips s.groups c.args.i free l)) (omega (arith, some)))
