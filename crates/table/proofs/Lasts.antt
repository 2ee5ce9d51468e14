-- A table has the last of each key.
use Rattle.std.proofs.Common.{List}
use Rattle.table.specs.LastOfEach.{LastOfEach}
use Rattle.table.specs.Order.{Order}
use Rattle.table.specs.Table.{tabled}
use Rattle.table.proofs.Stand.{rises, last-stands}

pub last_of_each : {K R : Type 0} (o : Order K) (key : R → K) (given : List R) → LastOfEach o key given (tabled o key given)
last_of_each o key given = record { rising = rises o key given; last = last-stands o key given }
