-- PMU_MAPPINGS, feature 16: a u32 count, and that many items of a u32 number, the key, and a header text, its name.
-- What follows the items is ignored.
use Rattle.std.specs.Prelude.{ℕ, zero, suc, ◌+◌, ◌-◌, List, [], length, drop, Some, None, Ok, Err, Option, Result}
use Rattle.std.specs.Option.{unwrap_or}
use Rattle.wire.specs.Faults.{fault_of, section_fault}
use Rattle.wire.specs.Numbers.{number}
use Rattle.wire.specs.declared.order.ByteOrder.{ByteOrder}
use Rattle.wire.specs.declared.refusal.Fault.{Fault}
use Rattle.wire.specs.declared.refusal.Refusal.{Refusal}
use Rattle.text.specs.Strings.{Read, header_text}
use Rattle.text.specs.declared.strings.TextFault.{TextFault}
use Rattle.text.specs.declared.strings.TextFault.TheVariants.{ShortLength, PastEnd, IllFormed}
use Rattle.table.specs.Order.{numbers}
use Rattle.table.specs.declared.row.Row.{Row}
use Rattle.mappings.specs.Tables.{before, table_by}
use Rattle.mappings.specs.declared.pmu_mappings.Item.{Item}

-- A number that is cut short is refused where it would stand, its count and the texts' lengths too, and a text that ends
-- past the section where its bytes begin.
abbrev pub cut : ℕ → Fault
cut at = section_fault 11 16 at

-- What follows a header text, whether it is well formed or not.
abbrev pub past_text : ByteOrder → List ℕ → List ℕ
past_text o s = drop (unwrap_or (number o 4 s) 0) (drop 4 s)

-- What an item gives, and what follows it. One whose name is ill formed is skipped, and gives nothing.
pub record ItemRead (X : Type 0) : Type 0 where
  pub given : Option X
  pub rest : List ℕ

abbrev pub given_before : {X : Type 0} → Option X → Result (List X) Fault → Result (List X) Fault
given_before None more = more
given_before (Some x) more = before x more

-- An item and then more, read from what follows it.
abbrev pub and_more : {X : Type 0} → Result (ItemRead X) Fault → (List ℕ → Result (List X) Fault) → Result (List X) Fault
and_more (Ok i) more = given_before i.given (more i.rest)
and_more (Err f) more = Err f

-- `X` is what is made of an item, from its number, the offset of its name's bytes, and its name.
module _ {X : Type 0} (make : ℕ → ℕ → List ℕ → X) (o : ByteOrder) where
  -- An item by its number and its name, whose length stands at an offset.
  abbrev pub named : ℕ → ℕ → List ℕ → Result Read TextFault → Result (ItemRead X) Fault
  named key at past (Ok r) = Ok (record { given = Some (make key (at + 4) r.text); rest = r.rest })
  named key at past (Err ShortLength) = Err (cut at)
  named key at past (Err PastEnd) = Err (cut (at + 4))
  named key at past (Err IllFormed) = Ok (record { given = None; rest = past })

  abbrev pub numbered : ℕ → List ℕ → Option ℕ → Result (ItemRead X) Fault
  numbered at s None = Err (cut at)
  numbered at s (Some key) = named key (at + 4) (past_text o s) (header_text o s)

  -- The item that bytes at an offset begin with.
  abbrev pub item_at : ℕ → List ℕ → Result (ItemRead X) Fault
  item_at at s = numbered at (drop 4 s) (number o 4 s)

  -- So many items, one after the other, in the last bytes `s` of a section of `total` bytes.
  unfoldable pub items_in : ℕ → ℕ → List ℕ → Result (List X) Fault
  items_in total zero s = Ok []
  items_in total (suc n) s = and_more (item_at (total - length s) s) (λ t. items_in total n t)

  abbrev pub counted_items : List ℕ → Option ℕ → Result (List X) Fault
  counted_items s None = Err (cut 0)
  counted_items s (Some n) = items_in (length s) n (drop 4 s)

  -- The items of a section, in the order given.
  abbrev pub items : List ℕ → Result (List X) Fault
  items s = counted_items s (number o 4 s)

-- The numbers with their names, in the order given.
abbrev pub pmu_items : ByteOrder → List ℕ → Result (List (ℕ × List ℕ)) Fault
pmu_items o s = items (λ key at name. (key, name)) o s

-- What a section means: its table, by rising numbers.
abbrev pub pmu_names : ByteOrder → List ℕ → Result (List (ℕ × List ℕ)) Fault
pmu_names o s = table_by numbers (λ e. e.0) (pmu_items o s)

-- The row of an item: its number, and the place of its name.
abbrev pub name_row : ℕ → ℕ → List ℕ → Row
name_row key at name = record { number = key; key_at = 0; key_len = 0; value_at = at; value_len = length name }

abbrev pub key_of : Row → ℕ
key_of row = row.number

-- The table as rows.
abbrev pub pmu_rows : ByteOrder → List ℕ → Result (List Row) Fault
pmu_rows o s = table_by numbers key_of (items name_row o s)

-- What the code reads of an item.
abbrev pub item_read : Result Item Refusal → Result (ItemRead Row) Fault
item_read (Ok i) = Ok (record { given = i.row; rest = i.rest.now })
item_read (Err e) = Err (fault_of e)
