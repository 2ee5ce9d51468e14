-- What a call that writes the answer of a question does.
use Rattle.std.specs.Prelude.{◌≡◌, ℕ, Bool, true, false, List, [], Some, None, Ok, Err, Option, Result}
use Rattle.wire.specs.declared.refusal.Fault.{Fault}
use Rattle.wire.specs.declared.refusal.Refusal.{Refusal}
use Rattle.put.specs.declared.writer.Writer.{Writer}
use Rattle.put.specs.Appends.{Appends}
use Rattle.facts.specs.Facts.{write}
use Rattle.facts.specs.Head.{Answer, outcome}

-- Nothing, bytes, or a fault.
abbrev pub Bytes : Type 0
Bytes = Result (Option (List ℕ)) Fault

abbrev pub in_bytes : Answer → Bytes
in_bytes (Ok None) = Ok None
in_bytes (Ok (Some v)) = Ok (Some (write v))
in_bytes (Err e) = Err e

-- Whether there are bytes.
abbrev pub there : Bytes → Result Bool Fault
there (Ok None) = Ok false
there (Ok (Some b)) = Ok true
there (Err e) = Err e

-- What is put: nothing where there are none.
abbrev pub put_of : Bytes → List ℕ
put_of (Ok None) = []
put_of (Ok (Some b)) = b
put_of (Err e) = []

pub record Writes (b : Bytes) (before : Writer) (r : Result Bool Refusal) (after : Writer) : Type 0 where
  pub answers : outcome r ≡ there b
  pub appends : Appends (put_of b) before after
