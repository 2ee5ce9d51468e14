-- What each call of a desk answers, and what its shelf holds after it, in the words of the shelf's own calls.
use Rattle.std.specs.Prelude.{ℕ, min, cond, List, replicate, Option, Some, None, Ok, Err, Result, nat_lt}
use Rattle.std.specs.Borrow.{Bor}
use Rattle.wire.specs.Faults.{fault_of}
use Rattle.wire.specs.declared.refusal.Fault.{Fault}
use Rattle.wire.specs.declared.refusal.Refusal.{Refusal}
use Rattle.image.specs.Kinds.{any_image}
use Rattle.facts.specs.Images.{head_in}
use Rattle.shelf.specs.Contents.{Contents}
use Rattle.shelf.specs.Calls.{refused, open_answer, opening, head_for, file_answer, file_after, release_answer, release_after, count_answer, head_shown}
use Rattle.desk.specs.declared.request.Lent.{Lent}
use Rattle.desk.specs.declared.request.Opening.{Opening}

-- A first number above those of 32 bits is out of bounds, as 0 is.
abbrev pub first_number : ℕ → ℕ
first_number n = cond (nat_lt n 4294967296) n 0

-- A shelf has at most 64 strips of 65,536 bytes; no more bytes are made. All are 0.
abbrev pub bytes_made : ℕ → List ℕ
bytes_made n = replicate (min n 4194304) 0

abbrev pub opened_answer : Opening → Result (Unit {0}) Fault
opened_answer o = open_answer o.strip (first_number o.first) (bytes_made o.bytes)

abbrev pub opened_shelf : Opening → Contents
opened_shelf o = opening o.strip (first_number o.first) (bytes_made o.bytes)

-- Where nothing is said, a filing is lent 4,096 rows and 65,536 work bytes. There are 65,536 of either.
abbrev pub rows_lent : Option Lent → ℕ
rows_lent None = 4096
rows_lent (Some l) = min l.rows 65536

abbrev pub work_lent : Option Lent → ℕ
work_lent None = 65536
work_lent (Some l) = min l.work 65536

-- The head of a filing of an image's bytes, or the fault of the image.
abbrev pub head_filed : Contents → Option Lent → List ℕ → Result (List ℕ) Fault
head_filed c lent image = head_for c (work_lent lent) (head_in (rows_lent lent) (any_image image))

abbrev pub filed_answer : Contents → Option Lent → List ℕ → Result ℕ Fault
filed_answer c lent image = file_answer c (head_filed c lent image)

abbrev pub filed_after : Contents → Option Lent → List ℕ → Contents
filed_after c lent image = file_after c (head_filed c lent image)

-- No group has a number above those of 32 bits.
abbrev pub if_number : {X : Type 0} → ℕ → Result X Fault → Result X Fault
if_number g r = cond (nat_lt g 4294967296) r (refused 34)

abbrev pub released_answer : Contents → ℕ → Result (Unit {0}) Fault
released_answer c g = if_number g (release_answer c g)

abbrev pub released_after : Contents → ℕ → Contents
released_after c g = cond (nat_lt g 4294967296) (release_after c g) c

abbrev pub counted_answer : Contents → ℕ → Result ℕ Fault
counted_answer c g = if_number g (count_answer c g)

-- Where nothing is said, there is room as far as the buffer goes.
abbrev pub room_lent : Option ℕ → ℕ → ℕ
room_lent None size = size
room_lent (Some room) size = min room size

abbrev pub shown_answer : Contents → ℕ → Option ℕ → ℕ → Result (List ℕ) Fault
shown_answer c g room size = if_number g (head_shown c g (room_lent room size))

-- The head that a call of the code gives.
abbrev pub head_given : Result (Bor (List ℕ)) Refusal → Result (List ℕ) Fault
head_given (Ok head) = Ok head.now
head_given (Err e) = Err (fault_of e)
