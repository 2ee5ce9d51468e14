-- What a table is of all that was given: the last of each key, by rising keys.
use Rattle.std.specs.Prelude.{◌≡◌, List}
use Rattle.table.specs.Order.{Order}
use Rattle.table.specs.Table.{Rising, lookup, last_of}

-- The keys of the table are strictly rising, and at each key it has what was given last with that key, or nothing.
pub record LastOfEach {K R : Type 0} (o : Order K) (key : R → K) (given table : List R) : Type 0 where
  pub rising : Rising o key table
  pub last : (k : K) → lookup o key table k ≡ last_of o key given k
