use Rattle.std.proofs.Common.{length, sym, ap}
use Rattle.facts.specs.Head.{answer}
use Rattle.put_facts.specs.Writes.{in_bytes}
use Rattle.head.proofs.Tables.{same_feature, rowless, written}
use Rattle.head.proofs.fact.put_feature.Goals as goal

pub returns-in-Some : goal.returns-in-Some
returns-in-Some g c =
    let o = g.S.Store.endian c.args.store.now in
    let at = (g.S.Store.map c.args.store.now).at in
    record { writes = written (ap (λ f. in_bytes (answer (length c.args.rows.now) o at f)) (same_feature c.args.feature c.in-Some.table (sym c.in-Some.ensures))) c.put_table_fact.ensures.writes }

pub returns-in-None : goal.returns-in-None
returns-in-None g c =
    let o = g.S.Store.endian c.args.store.now in
    let at = (g.S.Store.map c.args.store.now).at in
    record { writes = written (ap in_bytes (rowless c.args.feature (sym c.in-None.ensures) (length c.args.rows.now) o at)) c.put_fact.ensures }
