-- The answer to a question, whatever the question.
use Rattle.std.specs.Prelude.{ℕ, ◌++◌, List, Some, None, Ok, Err, Option, Result, codes}
use Rattle.std.specs.Fmt.{decimal}
use Rattle.wire.specs.Shown.{layer_number}
use Rattle.wire.specs.declared.refusal.Fault.{Fault}

-- `refused NUMBER LAYER FEATURE OFFSET`
abbrev pub refused_text : Fault → List ℕ
refused_text f =
    codes "refused " ++ decimal f.number ++ codes " " ++ decimal (layer_number f.layer) ++ codes " " ++ decimal f.feature ++ codes " " ++ decimal f.offset

-- What it tells, that the section is absent, or why it is refused.
abbrev pub answer_text : {V : Type 0} → (V → List ℕ) → Result (Option V) Fault → List ℕ
answer_text text (Ok (Some v)) = text v
answer_text text (Ok None) = codes "absent"
answer_text text (Err fault) = refused_text fault
