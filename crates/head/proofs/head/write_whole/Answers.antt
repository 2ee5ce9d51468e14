use Rattle.std.proofs.Common.{length, sym, ◌∙◌}
use Rattle.head.proofs.Whole.{whole_wrote}
use Rattle.head.proofs.head.write_whole.Goals as goal

pub returns : goal.returns
returns g c =
    let n = length c.args.rows.now in
    let o = g.S.Store.endian c.args.store.now in
    let m = g.S.Store.map c.args.store.now in
    whole_wrote n o m.at c.section.result c.section.ensures (sym c.is_some.ensures ∙ c.if-is_some.false) c.put.ensures
    c.write_entries.ensures
