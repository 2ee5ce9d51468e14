use Rattle.std.proofs.Common.{ℕ, length, Ok, sym, ap, ◌∙◌, subst, arith, rules}
use Rattle.facts.specs.Head.{head_of, length_of, ahead}
use Rattle.head.specs.Wrote.{Wrote}
use Rattle.head.proofs.Whole.{head-fits, head-too-long}
use Rattle.head.proofs.head.write_fitting.Goals as goal

pub returns-then-len-min-clause-answer : goal.returns-then-len-min-clause-answer
returns-then-len-min-clause-answer g c =
    let o = g.S.Store.endian c.args.store.now in
    let m = g.S.Store.map c.args.store.now in
    sym (ap length_of (head-too-long (head_of (length c.args.rows.now) o m.at) (length c.args.out.now) c.at-len.result c.new-counter.ensures.at c.in_ok-write_whole.ensures c.at-len.ensures (omega arith)))

pub returns-then-len-min-clause-after : goal.returns-then-len-min-clause-after
returns-then-len-min-clause-after g c =
    let o = g.S.Store.endian c.args.store.now in
    let m = g.S.Store.map c.args.store.now in
    sym (ap (λ x. ahead x c.args.out.now) (head-too-long (head_of (length c.args.rows.now) o m.at) (length c.args.out.now) c.at-len.result c.new-counter.ensures.at c.in_ok-write_whole.ensures c.at-len.ensures (omega arith)))

pub returns-clause-answer : goal.returns-clause-answer
returns-clause-answer g c =
    let o = g.S.Store.endian c.args.store.now in
    let m = g.S.Store.map c.args.store.now in
    let again = subst (λ (n : ℕ). Wrote (head_of n o m.at) c.new.result (Ok tt) c.write_whole-2.new.w) c.write_whole.auto.rows c.in_ok-write_whole-2.ensures in
    (head-fits (head_of (length c.args.rows.now) o m.at) c.args.out.now c.at-len.result c.new-counter.ensures.at c.in_ok-write_whole.ensures c.at-len.ensures c.new.ensures.out c.new.ensures.at (omega arith) again).answer

pub returns-clause-after : goal.returns-clause-after
returns-clause-after g c =
    let o = g.S.Store.endian c.args.store.now in
    let m = g.S.Store.map c.args.store.now in
    let again = subst (λ (n : ℕ). Wrote (head_of n o m.at) c.new.result (Ok tt) c.write_whole-2.new.w) c.write_whole.auto.rows c.in_ok-write_whole-2.ensures in
    let after = (head-fits (head_of (length c.args.rows.now) o m.at) c.args.out.now c.at-len.result c.new-counter.ensures.at c.in_ok-write_whole.ensures c.at-len.ensures c.new.ensures.out c.new.ensures.at (omega arith) again).after in
    search rules ∙ after
