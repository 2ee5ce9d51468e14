-- What each call of a shelf answers, and what the shelf holds after it.
use Rattle.std.specs.Prelude.{◌≡◌, ℕ, ◌+◌, ◌-◌, ◌*◌, ◌/◌, ◌<◌, min, Bool, cond, ◌&&◌, List, [], ◌∷◌, length, replicate, Some, None, Ok, Err, Option, Result, ◌==◌, ◌≢◌, nat_le, nat_lt}
use Rattle.std.specs.Option as options
use Rattle.std.specs.Str.{bytes_eq}
use Rattle.wire.specs.Faults.{state_fault}
use Rattle.wire.specs.declared.order.ByteOrder.{ByteOrder}
use Rattle.wire.specs.declared.refusal.Fault.{Fault}
use Rattle.facts.specs.Head.{Sections, head_of, fitted}
use Rattle.shelf.specs.Rows.{Row}
use Rattle.shelf.specs.Contents.{Contents, blank, row_in, put, handed_out}

abbrev pub refused : {X : Type 0} → ℕ → Result X Fault
refused number = Err (state_fault number 256)

-- 1. Opening

-- The bounds: a strip of 5 to 65,536 bytes, a first number from 1 on (a u32), and bytes for one strip.
abbrev pub in_bounds : ℕ → ℕ → ℕ → Bool
in_bounds strip first room = (nat_le 5 strip && nat_le strip 65536) && (nat_le 1 first && nat_le strip room)

abbrev pub open_answer : ℕ → ℕ → List ℕ → Result (Unit {0}) Fault
open_answer strip first bytes = cond (in_bounds strip first (length bytes)) (Ok tt) (refused 37)

abbrev pub strips_in : ℕ → ℕ → ℕ
strips_in room strip = min (room / strip) 64

-- As many strips as the bytes have room for, 64 at most. All are free, and every byte is 0.
abbrev pub empty : ℕ → ℕ → ℕ → Contents
empty strip first room =
    record { strip = strip; next = first; rows = replicate (strips_in room strip) (blank strip); tail = replicate (room - strips_in room strip * strip) 0 }

-- A shelf with no strip, which keeps its bytes as they are.
abbrev pub without : List ℕ → Contents
without bytes = record { strip = 0; next = 1; rows = []; tail = bytes }

-- There is a shelf in either case.
abbrev pub opening : ℕ → ℕ → List ℕ → Contents
opening strip first bytes = cond (in_bounds strip first (length bytes)) (empty strip first (length bytes)) (without bytes)

-- 2. Places

abbrev pub later : Option ℕ → Option ℕ
later None = None
later (Some i) = Some (i + 1)

-- The first place that passes a test, as of a row.
unfoldable pub first_with : {X : Type 0} → (X → Bool) → List X → Option ℕ
first_with p [] = None
first_with p (x ∷ xs) = cond (p x) (Some 0) (later (first_with p xs))

abbrev pub is_numbered : ℕ → Row → Bool
is_numbered g r = r.number == g

-- The group that keeps a head. Its head is compared, whatever lies behind it.
abbrev pub has_head : List ℕ → Row → Bool
has_head h r = nat_lt 0 r.number && bytes_eq r.head h

-- The place of a group; no group has the number 0.
abbrev pub place_of : Contents → ℕ → Option ℕ
place_of c g = cond (g == 0) None (first_with (is_numbered g) c.rows)

-- The free place for a new group. Which one it is stays open: what is used of it is `FindsFree`.
unfoldable pub free_place : List Row → Option ℕ
free_place rows = first_with (is_numbered 0) rows

-- A place is one of the strips, and free; or else no strip is free.
abbrev pub FreeAt : Contents → Option ℕ → Type 0
FreeAt c o =
    options.MatchOption o ((j : ℕ) → j < length c.rows → (row_in c j).number ≢ 0) (λ i. (i < length c.rows) × ((row_in c i).number ≡ 0))

abbrev pub FindsFree : Type 0
FindsFree = (c : Contents) → FreeAt c (free_place c.rows)

-- 3. Filing

-- The head of a filing with so many work bytes: it has to fit into a strip, and the work bytes have to be a strip's at least.
abbrev pub if_room : Bool → Result (List ℕ) Fault → Result (List ℕ) Fault
if_room roomy (Ok h) = cond roomy (Ok h) (refused 32)
if_room roomy (Err e) = Err e

abbrev pub head_for : Contents → ℕ → Result (List ℕ) Fault → Result (List ℕ) Fault
head_for c work h = if_room (nat_le c.strip work) (fitted c.strip h)

-- On a shelf without strips every head is too long.
abbrev pub NoneFits : Type 0
NoneFits =
    (bytes : List ℕ) (work n : ℕ) (o : ByteOrder) (at : Sections) (h : List ℕ) → head_of n o at ≡ Ok h → head_for (without bytes) work (head_of n o at) ≡ refused 32

-- Where a head goes: to the group that keeps it already, if its count can go up; or else to a free place, if a number is left.
abbrev pub joining : Contents → ℕ → Result ℕ Fault
joining c i = cond (nat_lt (row_in c i).count 4294967295) (Ok i) (refused 35)

abbrev pub taking : Contents → Option ℕ → Result ℕ Fault
taking c None = refused 33
taking c (Some i) = cond (nat_lt c.next 4294967296) (Ok i) (refused 36)

abbrev pub seat : Contents → Option ℕ → Result ℕ Fault
seat c (Some i) = joining c i
seat c None = taking c (free_place c.rows)

abbrev pub seat_for : Contents → List ℕ → Result ℕ Fault
seat_for c h = seat c (first_with (has_head h) c.rows)

-- The row of a new group: the head, and then zeros; and a row with another count.
abbrev pub fresh : ℕ → ℕ → List ℕ → Row
fresh strip g h = record { number = g; count = 1; head = h; rest = replicate (strip - length h) 0 }

abbrev pub recount : Row → ℕ → Row
recount r n = record { number = r.number; count = n; head = r.head; rest = r.rest }

-- The number of the group that is at the place then, and what the shelf holds then.
abbrev pub number_at : Contents → ℕ → ℕ
number_at c i = cond (is_numbered 0 (row_in c i)) c.next (row_in c i).number

abbrev pub seated : Contents → List ℕ → ℕ → Contents
seated c h i =
    cond (is_numbered 0 (row_in c i)) (handed_out (put c i (fresh c.strip c.next h))) (put c i (recount (row_in c i) ((row_in c i).count + 1)))

abbrev pub number_of : Contents → Result ℕ Fault → Result ℕ Fault
number_of c (Ok i) = Ok (number_at c i)
number_of c (Err e) = Err e

abbrev pub seated_at : Contents → List ℕ → Result ℕ Fault → Contents
seated_at c h (Ok i) = seated c h i
seated_at c h (Err e) = c

-- A filing of this head, or of a store that has none.
abbrev pub file_answer : Contents → Result (List ℕ) Fault → Result ℕ Fault
file_answer c (Ok h) = number_of c (seat_for c h)
file_answer c (Err e) = Err e

abbrev pub file_after : Contents → Result (List ℕ) Fault → Contents
file_after c (Ok h) = seated_at c h (seat_for c h)
file_after c (Err e) = c

-- 4. Release, count and show

-- With the last filing the strip is free again.
abbrev pub lowered : Contents → ℕ → Contents
lowered c i = cond (nat_lt 1 (row_in c i).count) (put c i (recount (row_in c i) ((row_in c i).count - 1))) (put c i (blank c.strip))

abbrev pub release_at : Option ℕ → Result (Unit {0}) Fault
release_at None = refused 34
release_at (Some i) = Ok tt

abbrev pub release_answer : Contents → ℕ → Result (Unit {0}) Fault
release_answer c g = release_at (place_of c g)

abbrev pub lowered_at : Contents → Option ℕ → Contents
lowered_at c None = c
lowered_at c (Some i) = lowered c i

abbrev pub release_after : Contents → ℕ → Contents
release_after c g = lowered_at c (place_of c g)

abbrev pub count_at : Contents → Option ℕ → Result ℕ Fault
count_at c None = refused 34
count_at c (Some i) = Ok (row_in c i).count

abbrev pub count_answer : Contents → ℕ → Result ℕ Fault
count_answer c g = count_at c (place_of c g)

-- The head that is shown in a buffer of so many bytes.
abbrev pub show_at : Contents → ℕ → Option ℕ → Result (List ℕ) Fault
show_at c room None = refused 34
show_at c room (Some i) = cond (nat_lt room (length (row_in c i).head)) (refused 32) (Ok (row_in c i).head)

abbrev pub head_shown : Contents → ℕ → ℕ → Result (List ℕ) Fault
head_shown c g room = show_at c room (place_of c g)
