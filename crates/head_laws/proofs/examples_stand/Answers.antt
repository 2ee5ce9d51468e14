use Rattle.std.proofs.Common.{refl}
use Rattle.wire.specs.Numbers.{number_of, bytes_of}
use Rattle.text.specs.Pieces.{longest, starts_one, pieces_past}
use Rattle.text.specs.Strings.{before_nul}
use Rattle.mappings.specs.MetaInfo.{pieces}
use Rattle.dso_key.specs.Detect.{is_no_file, vdso_key, detect}
use Rattle.dso_key.specs.Paths.{after_last}
use Rattle.build_ids.specs.Events.{less_zeros}
use Rattle.facts.specs.Facts.{write}
use Rattle.facts.specs.Head.{framed, carried}
use Rattle.head_laws.proofs.examples_stand.Goals as goal

-- each by computation
pub returns : goal.returns
unfolding number_of bytes_of longest starts_one pieces_past before_nul pieces is_no_file vdso_key detect after_last less_zeros write framed carried
returns c =
    record {
      module_file = refl;
      user_file = refl;
      module_bare = refl;
      id_trimmed = refl;
      id_flagged = refl;
      text_to_nul = refl;
      text_ill_formed = refl;
      shown_cut = refl;
      shown_truncated = refl;
      later_value = refl;
      empty_head = refl;
      stat_head = refl;
    }
