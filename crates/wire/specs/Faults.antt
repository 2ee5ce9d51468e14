-- What each refusal says: its number, and the place of what failed.
use Rattle.std.specs.Prelude.{ℕ}
use Rattle.wire.specs.declared.refusal.Fault.{Fault}
use Rattle.wire.specs.declared.refusal.Layer.{Layer}
use Rattle.wire.specs.declared.refusal.Layer.TheVariants.{Image, Section, SymbolRecord, State}
use Rattle.wire.specs.declared.refusal.Refusal.{Refusal}
use Rattle.wire.specs.declared.refusal.Refusal.TheVariants.{ImageTooShort, WrongMark, ImageTooLong, TableOutside, SectionOutside, BadRecord, SectionTooSmall, RecordOutside, NoTextLength, NoListCount, TextOutside, IllFormedText, IllFormedSymbolText, CutShort, SymbolRecordCutShort, WrongClockVersion, UnknownFileType, CountTooLarge, NoNul, SecondFormatPresent, BadEntry, TooFewRows, TooLittleRoom, NoFreeStrip, GroupNotHeld, CountFull, NumbersUsedUp, BadOpening}

abbrev pub fault : Layer → ℕ → ℕ → ℕ → Fault
fault layer number feature offset = record { number = number; layer = layer; feature = feature; offset = offset }

-- A fault of an image, of a section, of a symbol record (they are all of feature 128) and of the state.
-- Where no feature is meant, it is 256.
abbrev pub image_fault : ℕ → ℕ → Fault
image_fault number offset = fault Image number 256 offset

abbrev pub section_fault : ℕ → ℕ → ℕ → Fault
section_fault number feature offset = fault Section number feature offset

abbrev pub symbol_fault : ℕ → ℕ → Fault
symbol_fault number offset = fault SymbolRecord number 128 offset

abbrev pub state_fault : ℕ → ℕ → Fault
state_fault number feature = fault State number feature 0

abbrev pub fault_of : Refusal → Fault
fault_of ImageTooShort = image_fault 1 0
fault_of WrongMark = image_fault 2 0
fault_of ImageTooLong = image_fault 3 0
fault_of TableOutside = image_fault 4 40
fault_of (SectionOutside at) = image_fault 4 at
fault_of (BadRecord at) = image_fault 5 at
fault_of (SectionTooSmall feature) = section_fault 6 feature 0
fault_of (RecordOutside at) = section_fault 6 128 at
fault_of (NoTextLength feature at) = section_fault 7 feature at
fault_of NoListCount = section_fault 8 11 0
fault_of (TextOutside feature at) = section_fault 9 feature at
fault_of (IllFormedText feature at) = section_fault 10 feature at
fault_of (IllFormedSymbolText at) = symbol_fault 10 at
fault_of (CutShort feature at) = section_fault 11 feature at
fault_of (SymbolRecordCutShort at) = symbol_fault 11 at
fault_of WrongClockVersion = section_fault 12 29 0
fault_of (UnknownFileType at) = symbol_fault 13 at
fault_of (CountTooLarge at) = symbol_fault 14 at
fault_of (NoNul at) = symbol_fault 15 at
fault_of SecondFormatPresent = section_fault 16 132 0
fault_of (BadEntry at) = image_fault 17 at
fault_of (TooFewRows feature) = state_fault 31 feature
fault_of TooLittleRoom = state_fault 32 256
fault_of NoFreeStrip = state_fault 33 256
fault_of GroupNotHeld = state_fault 34 256
fault_of CountFull = state_fault 35 256
fault_of NumbersUsedUp = state_fault 36 256
fault_of BadOpening = state_fault 37 256
