use Rattle.std.proofs.Common.{refl}
use Rattle.table.specs.Rows.{entry_of}
use Rattle.table.proofs.Carried.{carries}
use Rattle.table.proofs.Stand.{stays_rising, sets, rises, last-stands, determined, again, grows}
use Rattle.table.proofs.laws.tables_stand.Goals as goal

pub returns : goal.returns
returns g c =
    let o = g.K.Kind.order in
    let key = g.K.Kind.key c.args.kind.now in
    record {
      stays = stays_rising o key;
      sets = sets o key;
      rises = rises o key;
      stands = last-stands o key;
      determined = determined o key;
      again = again o key;
      grows = grows o key;
      entries = carries o key (λ e. e.0) (entry_of key c.args.section.now) (λ _. refl);
    }
