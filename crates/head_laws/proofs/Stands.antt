-- The laws of heads, since every carried fact is read back.
use Rattle.std.proofs.Common.{ℕ}
use Rattle.wire.specs.declared.order.ByteOrder.{ByteOrder}
use Rattle.image.specs.Held.{Features}
use Rattle.facts.specs.declared.carried.Carried.{Carried}
use Rattle.facts.specs.Head.{answer}
use Rattle.facts.specs.Laws.{HeadsSpeak}
use Rattle.read_back.proofs.Facts.{facts_back}
use Rattle.head_laws.proofs.Found.{Small}
use Rattle.head_laws.proofs.Speaking as speaking

pub heads_speak : HeadsSpeak
heads_speak = speaking.heads_speak facts_back

-- every fact fits an entry
pub small : (n : ℕ) (o : ByteOrder) (m : Features) (f : Carried) → Small (answer n o m.at f)
small = speaking.small facts_back
