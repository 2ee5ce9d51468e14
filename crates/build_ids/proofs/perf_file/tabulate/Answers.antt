use Rattle.std.proofs.Common.{◌≡◌, ◌+◌, [], ◌∷◌, ◌++◌, length, drop, Some, None, sym, refl, ap, ◌∙◌, subst, arith, rules}
use Rattle.std.proofs.lemmas.List.{length-drop}
use Rattle.table.specs.Fills.{Holds, fits, laid}
use Rattle.table.specs.Table.{tabled}
use Rattle.dso_key.specs.Order.{keys}
use Rattle.build_ids.specs.Events.{event, event_of, records}
use Rattle.build_ids.specs.Rows.{row_key, row_table, rows_from}
use Rattle.build_ids.proofs.Reading.{event-size}
use Rattle.build_ids.proofs.Parts.{path-short, id-short}
use Rattle.build_ids.proofs.Filling.{here, rows_end, rows_kept, rows-passed}
use Rattle.build_ids.proofs.perf_file.tabulate.Goals as goal

pub row_of-requires : goal.row_of-requires
row_of-requires c =
    let s = c.args.section.bytes.now in
    let o = c.args.section.order in
    let at = c.in-Some.at in
    let e = event_of c.in-Some.event in
    let inv = c.loop-at.invariant in
    let given = c.in-Some.ensures.steps in
    let h : event o (drop at s) ≡ Some e = here (Some e) inv.3 given.0 given.1 in
    let z = event-size o (drop at s) e h in
    record {
      at = omega (arith, z.0, z.1, length-drop at s);
      path = omega (arith, path-short o (drop at s) e h, length-drop at s);
      id = omega (arith, id-short o (drop at s) e h, length-drop at s);
    }

pub loop-at-preserved-in-Some-row_of : goal.loop-at-preserved-in-Some-row_of
loop-at-preserved-in-Some-row_of c =
    let s = c.args.section.bytes.now in
    let o = c.args.section.order in
    let at = c.in-Some.at in
    let e = event_of c.in-Some.event in
    let inv = c.loop-at.invariant in
    let so_far = inv.0 in
    let row = c.in-Some-row_of.row in
    let given = c.in-Some.ensures.steps in
    let h : event o (drop at s) ≡ Some e = here (Some e) inv.3 given.0 given.1 in
    let is : rows_from 0 (records o s) ≡ so_far ++ rows_from at (records o (drop at s)) =
    inv.2 ∙ ap (λ n. so_far ++ rows_from n (records o (drop n s))) (sym given.0) in
    let next : at + e.size ≡ c.next.new.self.at = ap (λ n. n + e.size) given.0 ∙ sym given.3 in (
      so_far ++ row ∷ [],
      c.add.ensures.added so_far inv.1,
      rows_kept o s so_far at is e h row c.in-Some-row_of.ensures ∙ ap (λ n. (so_far ++ row ∷ []) ++ rows_from n (records o (drop n s))) next,
      given.2 ∙ inv.3,
      search rules,
    )

pub loop-at-preserved : goal.loop-at-preserved
loop-at-preserved c =
    let s = c.args.section.bytes.now in
    let o = c.args.section.order in
    let at = c.in-Some.at in
    let e = event_of c.in-Some.event in
    let inv = c.loop-at.invariant in
    let so_far = inv.0 in
    let given = c.in-Some.ensures.steps in
    let h : event o (drop at s) ≡ Some e = here (Some e) inv.3 given.0 given.1 in
    let is : rows_from 0 (records o s) ≡ so_far ++ rows_from at (records o (drop at s)) =
    inv.2 ∙ ap (λ n. so_far ++ rows_from n (records o (drop n s))) (sym given.0) in
    let next : at + e.size ≡ c.next.new.self.at = ap (λ n. n + e.size) given.0 ∙ sym given.3 in (
      so_far,
      inv.1,
      rows-passed o s so_far at is e h c.in_default.ensures ∙ ap (λ n. so_far ++ rows_from n (records o (drop n s))) next,
      given.2 ∙ inv.3,
      search rules,
    )

pub returns : goal.returns
unfolding row_table
returns c =
    let s = c.args.section.bytes.now in
    let o = c.args.section.order in
    let inv = c.loop-at.invariant in
    let so_far = inv.0 in
    let builder = c.loop-at.builder in
    let at = c.loop-at.at-iterator.at in
    let h : event o (drop at s) ≡ None = here None inv.3 refl c.in-None.ensures.steps in
    let all = ap (tabled keys (row_key s)) (rows_end o s so_far at inv.2 h) in
    let kind : row_key builder.kind.section.now ≡ row_key s = ap (λ kind. row_key kind.section.now) (inv.4.0 ∙ c.start-builder.ensures.same_kind) in
    let n : length builder.rows.now ≡ length c.args.rows.now = search rules in
    let done = c.finish.ensures.holds (tabled keys (row_key s) so_far) (subst (λ key. Holds (tabled keys key so_far) builder.used builder.rows.now) kind inv.1) in
    record {
      count = done.0 ∙ (λ i. fits (n i) (sym all i));
      after = search rules ∙ done.1 ∙ (λ i. laid (n i) (sym all i));
    }
