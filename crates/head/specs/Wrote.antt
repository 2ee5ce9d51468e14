-- What a call that writes some bytes answers.
use Rattle.std.specs.Prelude.{◌≡◌, ℕ, List, Ok, Err, Result}
use Rattle.wire.specs.declared.refusal.Fault.{Fault}
use Rattle.wire.specs.declared.refusal.Refusal.{Refusal}
use Rattle.put.specs.declared.writer.Writer.{Writer}
use Rattle.put.specs.Appends.{Appends}
use Rattle.facts.specs.Head.{outcome}

-- That there are bytes, or the fault.
abbrev pub done_of : Result (List ℕ) Fault → Result (Unit {0}) Fault
done_of (Ok x) = Ok tt
done_of (Err e) = Err e

-- A call is to put the bytes `x`: what it answers, and what the writer then holds.
-- After a fault that is anything: the call before it has only counted.
pub record Wrote (x : Result (List ℕ) Fault) (before : Writer) (answer : Result (Unit {0}) Refusal) (after : Writer) : Type 0 where
  pub same_reference : after.out.ghost_name ≡ before.out.ghost_name
  pub answers : outcome answer ≡ done_of x
  pub appends : (y : List ℕ) → x ≡ Ok y → Appends y before after
