use Rattle.std.proofs.Common.{◌≡◌, ℕ, ◌*◌, ◌≤◌, replicate, vec_len, sym, refl, ap, ◌∙◌, subst, ◌&&◌, leb, arith, rules}
use Rattle.std.proofs.lemmas.Bool.{and_parts, leb-true}
use Rattle.shelf.specs.Rows.{free}
use Rattle.shelf.specs.Strips.{contents_of}
use Rattle.shelf.specs.Calls.{strips_in}
use Rattle.shelf.proofs.Openings.{all_free, emptied, strips_fit}
use Rattle.shelf.proofs.shelf.Shelf.empty.Goals as goal

pub invariant_of-result : goal.invariant_of-result
invariant_of-result c =
    let strips : c.min-strips.result ≡ strips_in (vec_len c.args.bytes) c.args.strip = search rules in
    let first = (and_parts (leb 1 c.args.first) (leb c.args.strip (vec_len c.args.bytes)) (and_parts (leb 5 c.args.strip && leb c.args.strip 65536) (leb 1 c.args.first && leb c.args.strip (vec_len c.args.bytes)) c.requires).1).0 in
    let fit : c.min-strips.result * c.args.strip ≤ vec_len c.args.bytes = subst (λ (n : ℕ). n * c.args.strip ≤ vec_len c.args.bytes) (sym strips) (strips_fit (vec_len c.args.bytes) c.args.strip) in
    record { places = refl; few = omega arith; room = omega (arith, fit, c.fill.ensures.len); fits = λ j. rw (all_free 64 j) (omega arith); next = leb-true 1 c.args.first first }

pub returns : goal.returns
returns c =
    let strip = c.args.strip in
    let room = vec_len c.args.bytes in
    let strips : c.min-strips.result ≡ strips_in room strip = search rules in
    ap (contents_of strip c.min-strips.result c.args.first (replicate 64 free)) (c.fill.ensures.items (λ y e. e))
    ∙ ap (λ (n : ℕ). contents_of strip n c.args.first (replicate 64 free) (replicate room 0)) strips
    ∙ emptied strip (strips_in room strip) c.args.first room (replicate 64 free) (all_free 64) (strips_fit room strip)
