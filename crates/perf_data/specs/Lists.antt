-- A view of header texts that have been checked.
use Rattle.std.specs.Prelude.{ℕ, List, Ok, Err, Result}
use Rattle.wire.specs.Faults.{fault_of}
use Rattle.wire.specs.declared.refusal.Fault.{Fault}
use Rattle.wire.specs.declared.refusal.Refusal.{Refusal}
use Rattle.perf_data.specs.declared.string_list.StringList.{StringList}
use Rattle.perf_data.specs.Texts.{readable}

-- The texts that a view has yet to give.
abbrev pub to_come : StringList → List (List ℕ)
to_come v = readable v.order v.left v.rest.now

abbrev pub listed : Result StringList Refusal → Result (List (List ℕ)) Fault
listed (Ok v) = Ok (to_come v)
listed (Err e) = Err (fault_of e)
