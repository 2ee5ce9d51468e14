-- Features that are header texts, and lists of them.
use Rattle.std.specs.Prelude.{ℕ, zero, suc, ◌-◌, List, [], ◌∷◌, length, drop, Some, None, Ok, Err, Option, Result}
use Rattle.wire.specs.Faults.{fault_of, section_fault}
use Rattle.wire.specs.Numbers.{number}
use Rattle.wire.specs.declared.order.ByteOrder.{ByteOrder}
use Rattle.wire.specs.declared.refusal.Fault.{Fault}
use Rattle.wire.specs.declared.refusal.Refusal.{Refusal}
use Rattle.text.specs.Refusals.{refusal_of}
use Rattle.text.specs.Strings.{Read, header_text}
use Rattle.text.specs.declared.strings.TextFault.{TextFault}

-- The fault of a text whose length stands at an offset of the feature's section.
abbrev pub text_fault : ℕ → ℕ → TextFault → Fault
text_fault feature at e = fault_of (refusal_of e feature at)

abbrev pub text_read : ℕ → Result Read TextFault → Result (List ℕ) Fault
text_read feature (Ok r) = Ok r.text
text_read feature (Err e) = Err (text_fault feature 0 e)

-- A section that begins with a header text. What follows it is ignored.
abbrev pub feature_string : ℕ → ByteOrder → List ℕ → Result (List ℕ) Fault
feature_string feature o s = text_read feature (header_text o s)

abbrev pub before : List ℕ → Result (List (List ℕ)) Fault → Result (List (List ℕ)) Fault
before text (Ok texts) = Ok (text ∷ texts)
before text (Err f) = Err f

-- A text and then more, read from what follows it; or the fault of a text whose length stands at an offset.
abbrev pub and_more : ℕ → ℕ → Result Read TextFault → (List ℕ → Result (List (List ℕ)) Fault) → Result (List (List ℕ)) Fault
and_more feature at (Ok r) more = before r.text (more r.rest)
and_more feature at (Err e) more = Err (text_fault feature at e)

-- So many header texts, one after the other, in the last bytes `s` of a section of `total` bytes.
unfoldable pub texts_in : ℕ → ByteOrder → ℕ → ℕ → List ℕ → Result (List (List ℕ)) Fault
texts_in feature o total zero s = Ok []
texts_in feature o total (suc n) s =
    and_more feature (total - length s) (header_text o s) (λ t. texts_in feature o total n t)

abbrev pub counted : ByteOrder → List ℕ → Option ℕ → Result (List (List ℕ)) Fault
counted o s None = Err (section_fault 8 11 0)
counted o s (Some n) = texts_in 11 o (length s) n (drop 4 s)

-- The command line: a u32 count and that many header texts. What follows them is ignored.
abbrev pub command_line : ByteOrder → List ℕ → Result (List (List ℕ)) Fault
command_line o s = counted o s (number o 4 s)

abbrev pub while_read : Result Read TextFault → (List ℕ → List (List ℕ)) → List (List ℕ)
while_read (Ok r) more = r.text ∷ more r.rest
while_read (Err e) more = []

-- The texts that can be read one after the other, up to so many: what a view of checked texts gives.
unfoldable pub readable : ByteOrder → ℕ → List ℕ → List (List ℕ)
readable o zero s = []
readable o (suc n) s = while_read (header_text o s) (λ t. readable o n t)

abbrev pub first_fault : {V : Type 0} → Result V Fault → Option Fault
first_fault (Ok v) = None
first_fault (Err f) = Some f

abbrev pub fault_in : Result (Unit {0}) Refusal → Option Fault
fault_in (Ok v) = None
fault_in (Err e) = Some (fault_of e)
