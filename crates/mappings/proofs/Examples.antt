-- What some sections mean: by computation.
use Rattle.std.proofs.Common.{refl}
use Rattle.wire.specs.Numbers.{number_of}
use Rattle.text.specs.Pieces.{longest, starts_one, pieces_past}
use Rattle.text.specs.Strings.{before_nul}
use Rattle.mappings.specs.PmuMappings.{items_in}
use Rattle.mappings.specs.MetaInfo.{pieces}
use Rattle.mappings.specs.Laws.{EmptySection, LoneNul, LonePiece, KeyFirst, SkippedName, CutLength}

pub empty_section : EmptySection
unfolding pieces
empty_section = refl

pub lone_nul : LoneNul
unfolding pieces longest starts_one pieces_past
lone_nul = refl

pub lone_piece : LonePiece
unfolding pieces longest starts_one pieces_past
lone_piece = refl

pub key_first : KeyFirst
unfolding pieces longest starts_one pieces_past
key_first = refl

pub skipped_name : SkippedName
unfolding items_in number_of before_nul longest starts_one pieces_past
skipped_name = refl

pub cut-length : CutLength
unfolding items_in number_of
cut-length = refl
