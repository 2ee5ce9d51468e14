use Rattle.std.proofs.Common.{length}
use Rattle.head_laws.proofs.Stands.{heads_speak}
use Rattle.head.proofs.Whole.{spoken}
use Rattle.head.proofs.head.write_head.Goals as goal

pub returns-clause-law : goal.returns-clause-law
returns-clause-law g c =
    let w = c.write_fitting-written in
    spoken heads_speak (length c.args.rows.now) (length c.args.out.now) (g.S.Store.endian c.args.store.now) (g.S.Store.map c.args.store.now) w.result c.args.out.now w.new.out w.ensures.answer w.ensures.after
