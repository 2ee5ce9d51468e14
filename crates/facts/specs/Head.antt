-- The head of a store: the facts of the carried features that are present, as a head image.
use Rattle.std.specs.Prelude.{ℕ, min, cond, List, [], ◌∷◌, ◌++◌, length, drop, is_some, Some, None, Ok, Err, Option, Result, nat_lt}
use Rattle.wire.specs.Faults.{fault_of, section_fault, state_fault}
use Rattle.wire.specs.declared.order.ByteOrder.{ByteOrder}
use Rattle.wire.specs.declared.refusal.Fault.{Fault}
use Rattle.wire.specs.declared.refusal.Refusal.{Refusal}
use Rattle.perf_data.specs.Questions.{question}
use Rattle.facts.specs.declared.carried.Carried.{Carried}
use Rattle.facts.specs.declared.carried.Carried.TheVariants.{BuildId, Hostname, OsRelease, Version, Arch, NrCpus, CpuDesc, CpuId, TotalMem, CmdLine, PmuMappings, Stat, ClockId, SimpleperfFile, SimpleperfMetaInfo}
use Rattle.facts.specs.Facts.{Fact, number, read, write}
use Rattle.facts.specs.Written.{u16, u32}

-- What is answered of a feature: that it is absent, its fact, or a fault.
abbrev pub Answer : Type 0
Answer = Result (Option Fact) Fault

-- A map from feature numbers to sections.
abbrev pub Sections : Type 0
Sections = ℕ → Option (List ℕ)

-- What a store of a byte order and sections answers, where a table may take n rows.
abbrev pub answer : ℕ → ByteOrder → Sections → Carried → Answer
answer n o at f = question (read n f) o (at (number f))

-- An entry: the feature's number, the length of its bytes, and the bytes.
unfoldable pub framed : ℕ → List ℕ → List ℕ
framed n b = u16 n ++ (u32 (length b) ++ b)

-- A feature that is absent has none.
abbrev pub entry : Carried → Answer → Result (List ℕ) Fault
entry f (Ok None) = Ok []
entry f (Ok (Some v)) = Ok (framed (number f) (write v))
entry f (Err e) = Err e

-- One after the other; the first fault is the answer.
abbrev pub after : Result (List ℕ) Fault → Result (List ℕ) Fault → Result (List ℕ) Fault
after (Ok x) (Ok y) = Ok (x ++ y)
after (Ok x) (Err e) = Err e
after (Err e) r = Err e

abbrev pub entries : (Carried → Answer) → List Carried → Result (List ℕ) Fault
entries a [] = Ok []
entries a (f ∷ fs) = after (entry f (a f)) (entries a fs)

-- `PRH`, and the version 1.
abbrev pub mark : List ℕ
mark = 0x50 ∷ 0x52 ∷ 0x48 ∷ 0x01 ∷ 0x00 ∷ []

-- The carried features by rising numbers.
unfoldable pub carried : List Carried
carried =
    BuildId ∷ Hostname ∷ OsRelease ∷ Version ∷ Arch ∷ NrCpus ∷ CpuDesc ∷ CpuId ∷ TotalMem ∷ CmdLine
    ∷ PmuMappings ∷ Stat ∷ ClockId ∷ SimpleperfFile ∷ SimpleperfMetaInfo ∷ []

-- The head of a store. Files in the second format, feature 132, are not read here, so a store that has them has no head:
-- that is judged before anything else.
abbrev pub head_of : ℕ → ByteOrder → Sections → Result (List ℕ) Fault
head_of n o at = cond (is_some (at 132)) (Err (section_fault 16 132 0)) (after (Ok mark) (entries (answer n o at) carried))

-- A head that is longer than the room for it, or than any image may be, is refused.
abbrev pub fitted : ℕ → Result (List ℕ) Fault → Result (List ℕ) Fault
fitted room (Ok h) = cond (nat_lt (min room 16777216) (length h)) (Err (state_fault 32 256)) (Ok h)
fitted room (Err e) = Err e

-- The answer of a call that writes a head, and the buffer after it: the head at the front and the other bytes as they were;
-- all as it was where it is refused.
abbrev pub length_of : Result (List ℕ) Fault → Result ℕ Fault
length_of (Ok h) = Ok (length h)
length_of (Err e) = Err e

abbrev pub ahead : Result (List ℕ) Fault → List ℕ → List ℕ
ahead (Ok h) out = h ++ drop (length h) out
ahead (Err e) out = out

-- What the code answers.
abbrev pub outcome : {X : Type 0} → Result X Refusal → Result X Fault
outcome (Ok x) = Ok x
outcome (Err e) = Err (fault_of e)
