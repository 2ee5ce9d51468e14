-- META_INFO of simpleperf, feature 129: keys and values by turns, with a NUL between each two.
use Rattle.std.specs.Prelude.{ℕ, suc, cond, List, [], ◌∷◌, length, drop, Some, None, Ok, Err, Option, Result, ◌==◌, nat_le}
use Rattle.wire.specs.Faults.{section_fault}
use Rattle.wire.specs.declared.order.ByteOrder.{ByteOrder}
use Rattle.wire.specs.declared.refusal.Fault.{Fault}
use Rattle.text.specs.Pieces.{well_formed}
use Rattle.table.specs.Order.{texts}
use Rattle.table.specs.Rows.{key_part}
use Rattle.table.specs.declared.row.Row.{Row}
use Rattle.mappings.specs.Tables.{before, table_by}

-- A piece of a section: where it begins, and its bytes, none of which is a NUL.
pub record Piece : Type 0 where
  pub at : ℕ
  pub bytes : List ℕ

-- The first piece begins with one more byte, and so one place earlier.
abbrev pub longer : ℕ → ℕ → List Piece → List Piece
longer at b [] = []
longer at b (p ∷ ps) = record { at = at; bytes = b ∷ p.bytes } ∷ ps

-- The pieces of a section from an offset on: it is split at the NULs. Each NUL ends a piece, and the end of the section
-- ends the last, which may be empty. So there is one piece more than there are NULs, in an empty section too.
unfoldable pub pieces : ℕ → List ℕ → List Piece
pieces at [] = record { at = at; bytes = [] } ∷ []
pieces at (b ∷ bs) = cond (b == 0) (record { at = at; bytes = [] } ∷ pieces (suc at) bs) (longer at b (pieces (suc at) bs))

-- What is read, unless a piece is ill formed.
abbrev pub checked : {V : Type 0} → Piece → Result V Fault → Result V Fault
checked p more = cond (well_formed p.bytes) more (Err (section_fault 10 129 p.at))

-- `X` is what is made of a key and its value.
module _ {X : Type 0} (make : Piece → Piece → X) where
  -- Key and value are both checked, the key first, and then what follows.
  abbrev pub pair_then : Piece → Piece → Result (List X) Fault → Result (List X) Fault
  pair_then key value more = checked key (checked value (before (make key value) more))

  -- Pieces by turns are keys and values. A last piece without a partner is not looked at.
  abbrev pub paired : List Piece → Result (List X) Fault
  paired [] = Ok []
  paired (key ∷ []) = Ok []
  paired (key ∷ value ∷ more) = pair_then key value (paired more)

  -- The first of these pairs, if there is one.
  abbrev pub first_pair : List Piece → Result (Option X) Fault
  first_pair [] = Ok None
  first_pair (key ∷ []) = Ok None
  first_pair (key ∷ value ∷ more) = checked key (checked value (Ok (Some (make key value))))

-- Keys with their values, in the order given.
abbrev pub meta_pairs : List ℕ → Result (List (List ℕ × List ℕ)) Fault
meta_pairs s = paired (λ key value. (key.bytes, value.bytes)) (pieces 0 s)

-- The table of a section, by rising keys.
abbrev pub meta_table : List ℕ → Result (List (List ℕ × List ℕ)) Fault
meta_table s = table_by texts (λ e. e.0) (meta_pairs s)

-- What a section means: its table, whatever the byte order is.
abbrev pub meta_info : ByteOrder → List ℕ → Result (List (List ℕ × List ℕ)) Fault
meta_info o s = meta_table s

-- The row of a key and its value: the places of both.
abbrev pub pair_row : Piece → Piece → Row
pair_row key value = record {
  number = 0;
  key_at = key.at;
  key_len = length key.bytes;
  value_at = value.at;
  value_len = length value.bytes;
}

-- The table as rows.
abbrev pub meta_rows : List ℕ → Result (List Row) Fault
meta_rows s = table_by texts (key_part s) (paired pair_row (pieces 0 s))

-- The pieces from an offset of a section on; past its end there are none.
abbrev pub pieces_from : List ℕ → ℕ → List Piece
pieces_from s at = cond (nat_le at (length s)) (pieces at (drop at s)) []
