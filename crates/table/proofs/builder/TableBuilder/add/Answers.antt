use Rattle.std.proofs.Common.{[], ◌∷◌, ◌++◌, set, sym, refl, arith, rules, subst}
use Rattle.table.specs.Fills.{Holds}
use Rattle.table.specs.Table.{tabled}
use Rattle.table.proofs.More.{still_over, over_same, one_too_many, put-more}
use Rattle.table.proofs.Shifts.{put_shifted}
use Rattle.table.proofs.builder.TableBuilder.add.Goals as goal

pub returns-in_default-clause-added : goal.returns-in_default-clause-added
returns-in_default-clause-added g c given =
    let m = g.K.Kind in
    let s = c.args.self.now in
    still_over m.order (m.key s.kind) given s.rows.now c.args.row s.used c.in_default.is

pub returns-in-Ok-clause-added : goal.returns-in-Ok-clause-added
returns-in-Ok-clause-added g c given fill =
    let m = g.K.Kind in
    let s = c.args.self.now in
    let before = subst (λ u. Holds (tabled m.order (m.key s.kind) given) u s.rows.now) c.in-Some.is fill in
    subst (λ u. Holds (tabled m.order (m.key s.kind) (given ++ c.args.row ∷ [])) u (set s.rows.now c.in-Ok.i c.args.row)) (sym c.in-Some.is)
    (over_same m.order (m.key s.kind) given s.rows.now c.args.row c.in-Some.used before c.in-Ok.i c.in-Ok.ensures.is _ refl)

pub returns-in-Err-clause-added : goal.returns-in-Err-clause-added
returns-in-Err-clause-added g c given fill =
    let m = g.K.Kind in
    let s = c.args.self.now in
    let before = subst (λ u. Holds (tabled m.order (m.key s.kind) given) u s.rows.now) c.in-Some.is fill in
    one_too_many m.order (m.key s.kind) given s.rows.now c.args.row c.in-Some.used before _ c.in-Err.ensures.is
    (omega arith) _ (search rules) (search rules)

pub returns-in-Err-2-clause-added : goal.returns-in-Err-2-clause-added
returns-in-Err-2-clause-added g c given fill =
    let m = g.K.Kind in
    let s = c.args.self.now in
    let before = subst (λ u. Holds (tabled m.order (m.key s.kind) given) u s.rows.now) c.in-Some.is fill in
    put-more m.order (m.key s.kind) given s.rows.now c.args.row c.in-Some.used before c.in-Err.field-0 c.in-Err.ensures.is
    (omega arith) _ (search rules)
    (put_shifted s.rows.now c.in-Some.used c.in-Err.field-0 c.args.row c.in-Err.ensures.within (omega arith) c.put_first.new.rows c.put_first.ensures)
