use Rattle.std.proofs.Common.{◌+◌, ◌-◌, ◌^◌, ◌<◌, length, refl, arith}
use Rattle.facts.specs.Head.{Answer, answer}
use Rattle.head_laws.proofs.Stands.{small}
use Rattle.head.proofs.Entry.{wrote_absent, body, body_end, entry_some, answer_is}
use Rattle.head.proofs.head.write_entry.Goals as goal

pub returns-then-not-is_there-clause-wrote : goal.returns-then-not-is_there-clause-wrote
returns-then-not-is_there-clause-wrote g c =
    let m = g.S.Store.map c.args.store.now in
    let r : Answer = answer (length c.args.rows.now) (g.S.Store.endian c.args.store.now) m.at c.args.feature in
    wrote_absent c.args.feature r c.go_to.ensures (answer_is r c.if-not-is_there.true c.in_ok-is_there.ensures.writes)
    c.at-start.ensures c.go_to-then-not-is_there.ensures

pub overflow_cast-end : goal.overflow_cast-end
overflow_cast-end g c =
    let o = g.S.Store.endian c.args.store.now in
    let m = g.S.Store.map c.args.store.now in
    let r : Answer = answer (length c.args.rows.now) o m.at c.args.feature in
    let b = body r (small (length c.args.rows.now) o m c.args.feature) (answer_is r c.if-not-is_there.false c.in_ok-is_there.ensures.writes) in
    let low : c.at-start.result + 6 < 2 ^ 40 = omega (arith, c.at-start.ensures) in
    omega (arith, body_end b low c.go_to.ensures c.at-end.ensures, b.small)

pub returns-clause-wrote : goal.returns-clause-wrote
returns-clause-wrote g c =
    let o = g.S.Store.endian c.args.store.now in
    let m = g.S.Store.map c.args.store.now in
    let r : Answer = answer (length c.args.rows.now) o m.at c.args.feature in
    let b = body r (small (length c.args.rows.now) o m c.args.feature) (answer_is r c.if-not-is_there.false c.in_ok-is_there.ensures.writes) in
    let low : c.at-start.result + 6 < 2 ^ 40 = omega (arith, c.at-start.ensures) in
    entry_some c.args.feature r c.at-start.result (c.at-start.result + 6) c.at-end.result c.from.result (c.at-end.result - (c.at-start.result + 6))
    b c.at-start.ensures refl low c.go_to.ensures c.at-end.ensures c.go_to-2.ensures c.from.ensures c.put_number.ensures refl c.put_number-2.ensures c.go_to-3.ensures

pub returns-clause-short : goal.returns-clause-short
returns-clause-short g c =
    let o = g.S.Store.endian c.args.store.now in
    let m = g.S.Store.map c.args.store.now in
    let r : Answer = answer (length c.args.rows.now) o m.at c.args.feature in
    let b = body r (small (length c.args.rows.now) o m c.args.feature) (answer_is r c.if-not-is_there.false c.in_ok-is_there.ensures.writes) in
    let low : c.at-start.result + 6 < 2 ^ 40 = omega (arith, c.at-start.ensures) in
    omega (arith, body_end b low c.go_to.ensures c.at-end.ensures, b.small, c.go_to-3.ensures.place, c.at-start.ensures)
