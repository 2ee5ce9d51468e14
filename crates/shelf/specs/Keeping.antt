-- What becomes of a strip that is lent to the head call, and of the shelf, where a new group is to have it.
use Rattle.std.specs.Prelude.{ℕ, ◌-◌, List, ◌++◌, length, replicate, Ok, Err, Result}
use Rattle.wire.specs.declared.refusal.Fault.{Fault}
use Rattle.shelf.specs.Contents.{Contents, put, handed_out}
use Rattle.shelf.specs.Calls.{fresh}

-- The head at the front of the strip, and zeros behind it; the strip as it was where there is no head.
abbrev pub with_zeros : Result (List ℕ) Fault → List ℕ → List ℕ
with_zeros (Ok h) strip = h ++ replicate (length strip - length h) 0
with_zeros (Err e) strip = strip

-- A new group with the head and the next number is at the place; the shelf is as it was where there is no head.
abbrev pub kept_at : Contents → ℕ → Result (List ℕ) Fault → Contents
kept_at c i (Ok h) = handed_out (put c i (fresh c.strip c.next h))
kept_at c i (Err e) = c

-- The group's number, or why there is no head.
abbrev pub number_if : ℕ → Result (List ℕ) Fault → Result ℕ Fault
number_if g (Ok h) = Ok g
number_if g (Err e) = Err e
