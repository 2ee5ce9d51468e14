-- What a question about a feature answers, from a store's byte order and the feature's section.
use Rattle.std.specs.Prelude.{◌≡◌, ◌↔◌, ℕ, List, Some, None, Ok, Err, Option, Result}
use Rattle.wire.specs.Faults.{fault_of}
use Rattle.wire.specs.declared.order.ByteOrder.{ByteOrder}
use Rattle.wire.specs.declared.refusal.Fault.{Fault}
use Rattle.wire.specs.declared.refusal.Refusal.{Refusal}

abbrev pub present : {V : Type 0} → Result V Fault → Result (Option V) Fault
present (Ok v) = Ok (Some v)
present (Err f) = Err f

-- Absent without a section, else what its bytes are read as.
abbrev pub question : {V : Type 0} → (ByteOrder → List ℕ → Result V Fault) → ByteOrder → Option (List ℕ) → Result (Option V) Fault
question read o None = Ok None
question read o (Some s) = present (read o s)

abbrev pub mapped : {X V : Type 0} → (X → V) → Option X → Option V
mapped value None = None
mapped value (Some x) = Some (value x)

-- What the code answers: `value` is what its answer stands for.
abbrev pub answered : {X V : Type 0} → (X → V) → Result (Option X) Refusal → Result (Option V) Fault
answered value (Ok x) = Ok (mapped value x)
answered value (Err e) = Err (fault_of e)

-- A question answers a value exactly where there is a section, and it says that value.
abbrev pub AnswersWhatIsSaid : {V : Type 0} → (ByteOrder → List ℕ → V → Type 0) → ByteOrder → Option (List ℕ) → Result (Option V) Fault → Type 0
AnswersWhatIsSaid {V} Says order section answer =
    (v : V) → (answer ≡ Ok (Some v)) ↔ ((s : List ℕ) × (section ≡ Some s) × Says order s v)
