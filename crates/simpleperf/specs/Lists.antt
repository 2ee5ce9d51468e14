-- What a list has yet to give.
use Rattle.std.specs.Prelude.{ℕ, List, Result}
use Rattle.wire.specs.declared.order.ByteOrder.{ByteOrder}
use Rattle.wire.specs.declared.refusal.Fault.{Fault}
use Rattle.simpleperf.specs.Parse.{Got, readable}
use Rattle.simpleperf.specs.declared.list.ItemList.{ItemList}

-- By how one item is read.
abbrev pub to_come : {K V : Type 0} → (ByteOrder → ℕ → List ℕ → Result (Got V) Fault) → ItemList K → List V
to_come reading l = readable (reading l.reader.order l.reader.size) l.left l.reader.rest.now
