-- What two filings into a new shelf, one after the other, come to.
use Rattle.std.specs.Prelude.{ℕ, Bool, List, Ok, Err, Result, ◌==◌}
use Rattle.wire.specs.declared.refusal.Fault.{Fault}
use Rattle.shelf.specs.Contents.{Contents}
use Rattle.shelf.specs.Calls.{open_answer, opening, file_answer, file_after}
use Rattle.shelf.specs.Histories.{Filing, head_in}

-- Whether two filings were answered with the same number; the first refusal is the answer.
abbrev pub same_number : Result ℕ Fault → Result ℕ Fault → Result Bool Fault
same_number (Ok g) (Ok k) = Ok (g == k)
same_number (Ok g) (Err e) = Err e
same_number (Err e) r = Err e

abbrev pub one_then_other : Contents → Filing → Filing → Result Bool Fault
one_then_other c x y = same_number (file_answer c (head_in c x)) (file_answer (file_after c (head_in c x)) (head_in (file_after c (head_in c x)) y))

abbrev pub once_open : {X : Type 0} → Result (Unit {0}) Fault → Result X Fault → Result X Fault
once_open (Ok u) r = r
once_open (Err e) r = Err e

-- Over these bytes, with strips of one length and the number 1 for the first group.
abbrev pub compared : ℕ → List ℕ → Filing → Filing → Result Bool Fault
compared strip bytes x y = once_open (open_answer strip 1 bytes) (one_then_other (opening strip 1 bytes) x y)
