-- What splitting a section at its NULs is, and what some sections mean.
use Rattle.std.specs.Prelude.{◌≡◌, ℕ, List, [], ◌∷◌, ◌++◌, Ok, Err}
use Rattle.wire.specs.Faults.{section_fault}
use Rattle.wire.specs.declared.order.ByteOrder.TheVariants.{Little, Big}
use Rattle.text.specs.Strings.{before_nul}
use Rattle.mappings.specs.PmuMappings.{pmu_names}
use Rattle.mappings.specs.MetaInfo.{Piece, pieces, meta_table}

-- Pieces, with a NUL between each two.
abbrev pub rejoined : List Piece → List ℕ
rejoined [] = []
rejoined (p ∷ []) = p.bytes
rejoined (p ∷ q ∷ ps) = p.bytes ++ 0 ∷ rejoined (q ∷ ps)

-- None of the pieces has a NUL.
abbrev pub Bare : List Piece → Type 0
Bare [] = Unit {0}
Bare (p ∷ ps) = (before_nul p.bytes ≡ p.bytes) × Bare ps

-- The pieces of a section have no NUL, and with a NUL between each two they are the section again.
abbrev pub Splits : Type 0
Splits = (at : ℕ) (s : List ℕ) → Bare (pieces at s) × (rejoined (pieces at s) ≡ s)

-- An empty section is one empty piece, without a partner; a lone NUL is between two.
abbrev pub EmptySection : Type 0
EmptySection = meta_table [] ≡ Ok []

abbrev pub LoneNul : Type 0
LoneNul = meta_table (0x00 ∷ []) ≡ Ok (([], []) ∷ [])

-- What follows the last whole pair is not looked at, and the key is checked before the value.
abbrev pub LonePiece : Type 0
LonePiece = meta_table (0x61 ∷ 0x00 ∷ 0x62 ∷ 0x00 ∷ 0xFF ∷ []) ≡ Ok ((0x61 ∷ [], 0x62 ∷ []) ∷ [])

abbrev pub KeyFirst : Type 0
KeyFirst = meta_table (0x61 ∷ 0x00 ∷ 0x62 ∷ 0x00 ∷ 0xFF ∷ 0x00 ∷ 0xFF ∷ []) ≡ Err (section_fault 10 129 4)

-- A name that is ill formed is skipped.
abbrev pub SkippedName : Type 0
SkippedName = pmu_names Big (0x00 ∷ 0x00 ∷ 0x00 ∷ 0x01 ∷ 0x00 ∷ 0x00 ∷ 0x00 ∷ 0x07 ∷ 0x00 ∷ 0x00 ∷ 0x00 ∷ 0x01 ∷ 0xFF ∷ []) ≡ Ok []

-- A text's length that is cut short is refused with 11, as any number of this feature is.
abbrev pub CutLength : Type 0
CutLength = pmu_names Little (0x01 ∷ 0x00 ∷ 0x00 ∷ 0x00 ∷ 0x07 ∷ 0x00 ∷ 0x00 ∷ 0x00 ∷ 0x01 ∷ []) ≡ Err (section_fault 11 16 8)
