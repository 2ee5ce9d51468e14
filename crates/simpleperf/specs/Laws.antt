-- Where the records of a section stand, in the section's own offsets.
use Rattle.std.specs.Prelude.{◌≡◌, ℕ, ◌+◌, ◌<◌, ◌≤◌, cond, List, [], ◌∷◌, length, take, drop, Some, None, Ok, Err, Option, Result, nat_lt}
use Rattle.wire.specs.Faults.{section_fault}
use Rattle.wire.specs.Numbers.{number_at}
use Rattle.wire.specs.declared.order.ByteOrder.{ByteOrder}
use Rattle.wire.specs.declared.refusal.Fault.{Fault}
use Rattle.simpleperf.specs.Parse.{Got}
use Rattle.simpleperf.specs.Tables.{File, file_in}

-- The length of a record, which stands at an offset.
abbrev pub length_at : ByteOrder → List ℕ → ℕ → ℕ
length_at o section at = number_at o 4 section at

-- The offset of the next record's length: the record lies behind the four bytes of its own.
abbrev pub next_at : ByteOrder → List ℕ → ℕ → ℕ
next_at o section at = at + 4 + length_at o section at

-- A record without the bytes that are left behind it.
abbrev pub value_read : {V : Type 0} → Result (Got V) Fault → Result V Fault
value_read (Ok g) = Ok g.value
value_read (Err f) = Err f

-- The record whose length stands at an offset, read from as many bytes as that says.
abbrev pub record_at : ByteOrder → List ℕ → ℕ → Result File Fault
record_at o section at =
    cond (nat_lt (length section) (at + 4)) (Err (section_fault 11 128 at))
    (cond (nat_lt (length section) (next_at o section at)) (Err (section_fault 6 128 at))
    (value_read (file_in o (length_at o section at) (take (length_at o section at) (drop (at + 4) section)))))

-- Files whose records stand one behind another, from one offset up to another.
abbrev pub Consecutive : ByteOrder → List ℕ → ℕ → List File → ℕ → Type 0
Consecutive o section at [] to = at ≡ to
Consecutive o section at (f ∷ fs) to =
    (record_at o section at ≡ Ok f) × (next_at o section at ≤ length section) × Consecutive o section (next_at o section at) fs to

-- What is answered of a section: the files of the records that fill it from its start to its end, or the fault of the first
-- record that has one.
abbrev pub FillSection : ByteOrder → List ℕ → ℕ → Result (List File) Fault → Type 0
FillSection o section from (Ok files) = Consecutive o section from files (length section)
FillSection o section from (Err f) =
    (files : List File) × (at : ℕ) × Consecutive o section from files at × (at < length section) × (record_at o section at ≡ Err f)

-- Without a section nothing is answered.
abbrev pub RecordsFill : ByteOrder → Option (List ℕ) → Result (Option (List File)) Fault → Type 0
RecordsFill o None answer = answer ≡ Ok None
RecordsFill o (Some section) (Ok None) = ⊥
RecordsFill o (Some section) (Ok (Some files)) = FillSection o section 0 (Ok files)
RecordsFill o (Some section) (Err f) = FillSection o section 0 (Err f)
