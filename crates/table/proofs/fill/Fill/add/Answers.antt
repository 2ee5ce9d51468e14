use Rattle.std.proofs.Common.{◌≡◌, [], ◌∷◌, ◌++◌, sym, ◌∙◌, subst, rules}
use Rattle.table.specs.Fills.{Holds, used_of}
use Rattle.table.specs.Table.{tabled}
use Rattle.table.proofs.fill.Fill.add.Goals as goal

pub returns : goal.returns
returns g c given held =
    let m = g.K.Kind in
    let after = given ++ c.args.row ∷ [] in
    let builder = c.add.new.self in
    let before = subst (λ u. Holds (tabled m.order (m.key c.args.kind.now) given) u c.args.rows.now) (sym c.finish.ensures.is) held in
    let added = c.add.ensures.added given (c.resume-builder.ensures.holds given before) in
    let kind : builder.kind ≡ c.args.kind = c.add.ensures.same.0 ∙ c.resume-builder.ensures.same_kind in
    let used : builder.used ≡ used_of c.map_or.result = search rules in
    subst (λ rows. Holds (tabled m.order (m.key c.args.kind.now) after) (used_of c.map_or.result) rows) (search rules) (
    subst (λ u. Holds (tabled m.order (m.key c.args.kind.now) after) u builder.rows.now) used (
    subst (λ k. Holds (tabled m.order (m.key k.now) after) builder.used builder.rows.now) kind added))
