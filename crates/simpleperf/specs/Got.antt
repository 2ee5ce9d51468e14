-- What the code's answers stand for, whatever they are of.
use Rattle.std.specs.Prelude.{ℕ, List, Ok, Err, Result}
use Rattle.std.specs.Borrow.{Bor}
use Rattle.wire.specs.Faults.{fault_of}
use Rattle.wire.specs.declared.refusal.Fault.{Fault}
use Rattle.wire.specs.declared.refusal.Refusal.{Refusal}
use Rattle.simpleperf.specs.Parse.{Got, got}

-- A value, by what it stands for, and the bytes that are left after it.
abbrev pub got_of : {X V : Type 0} → (X → V) → Result X Refusal → List ℕ → Result (Got V) Fault
got_of value (Ok x) left = got (value x) left
got_of value (Err e) left = Err (fault_of e)

abbrev pub number_got : Result ℕ Refusal → List ℕ → Result (Got ℕ) Fault
number_got r left = got_of (λ n. n) r left

abbrev pub text_got : Result (Bor (List ℕ)) Refusal → List ℕ → Result (Got (List ℕ)) Fault
text_got r left = got_of (λ x. x.now) r left

-- The bytes that are left behind items that were looked at.
abbrev pub left_of : Result Unit Refusal → List ℕ → Result (List ℕ) Fault
left_of (Ok _) left = Ok left
left_of (Err e) left = Err (fault_of e)
