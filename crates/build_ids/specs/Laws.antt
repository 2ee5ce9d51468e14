-- What the definitions of records say, in other words.
use Rattle.std.specs.Prelude.{◌≡◌, ℕ, ◌+◌, ◌-◌, ◌*◌, ◌/◌, ◌%◌, ◌<◌, ◌≤◌, max, false, List, [], ◌∷◌, ◌++◌, length, take, drop, replicate, Some}
use Rattle.wire.specs.Numbers.{number_at}
use Rattle.wire.specs.declared.order.ByteOrder.{ByteOrder}
use Rattle.build_ids.specs.Events.{Event, event, all_zero}

-- An id, which is some bytes without all groups of four zeros at their end.
pub record Trimmed (bytes id : List ℕ) : Type 0 where
  pub groups : ℕ
  pub zeros : id ++ replicate (4 * groups) 0 ≡ bytes
  pub last : 0 < length id → all_zero (drop (length id - 4) id) ≡ false

-- The size of a record at an offset: the one that it says, and 36 at least.
abbrev pub size_at : ByteOrder → List ℕ → ℕ → ℕ
size_at o section at = max (number_at o 2 section (at + 6)) 36

-- Records that follow one another from an offset on: each lies in the section with all of its size, and where the one before
-- it ends. The first that would end past the section ends them all. An id whose length is not written down is the first 20
-- bytes for it, trimmed.
abbrev pub RecordsFollow : ByteOrder → List ℕ → ℕ → List Event → Type 0
RecordsFollow o section at [] = length section < at + size_at o section at
RecordsFollow o section at (e ∷ es) =
    (event o (drop at section) ≡ Some e)
    × (e.size ≡ size_at o section at)
    × (at + e.size ≤ length section)
    × (e.misc / 0x8000 % 2 ≡ 0 → Trimmed (take 20 (drop 12 (drop at section))) e.id)
    × RecordsFollow o section (at + e.size) es
