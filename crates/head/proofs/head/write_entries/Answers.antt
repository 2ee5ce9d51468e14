use Rattle.std.proofs.Common.{ℕ, List, length, get_or, subst, arith}
use Rattle.facts.specs.declared.carried.Carried.{Carried}
use Rattle.facts.specs.declared.carried.Carried.TheVariants.{BuildId}
use Rattle.facts.specs.Head.{answer, entries}
use Rattle.head.specs.Wrote.{Wrote}
use Rattle.head.proofs.Entries.{as_many, entries-more, entries-fault}
use Rattle.head.proofs.Writes.{going_none}
use Rattle.head.proofs.head.write_entries.Goals as goal

pub loop-feature-init : goal.loop-feature-init
loop-feature-init g c = (going_none _ _, omega arith)

pub loop-feature-preserved : goal.loop-feature-preserved
loop-feature-preserved g c =
    let answers = λ (n : ℕ). answer n (g.S.Store.endian c.args.store.now) (g.S.Store.map c.args.store.now).at in
    let f = get_or c.all-features.result c.loop-feature.feature-index BuildId in (
      entries-more (answers (length c.args.rows.now)) c.all-features.result c.loop-feature.feature-index c.loop-feature.invariant.0 (omega arith)
          (as_many answers f c.loop-feature.auto.rows c.in_ok-write_entry.ensures.wrote),
      omega (arith, c.loop-feature.invariant.1, c.in_ok-write_entry.ensures.short),
    )

pub returns-in_err-write_entry : goal.returns-in_err-write_entry
returns-in_err-write_entry g c =
    let answers = λ (n : ℕ). answer n (g.S.Store.endian c.args.store.now) (g.S.Store.map c.args.store.now).at in
    let f = get_or c.all-features.result c.loop-feature.feature-index BuildId in
    subst (λ (fs : List Carried). Wrote (entries (answers (length c.args.rows.now)) fs) c.args.w.now c.from_residual.result c.write_entry.new.w) c.all-features.ensures
    (entries-fault (answers (length c.args.rows.now)) c.all-features.result c.loop-feature.feature-index c.loop-feature.invariant.0 c.from_residual.result _ (omega arith)
    c.from_residual.ensures.1 (as_many answers f c.loop-feature.auto.rows c.in_err-write_entry.ensures.wrote))
