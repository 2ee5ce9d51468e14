use Rattle.mappings.proofs.Examples.{empty_section, lone_nul, lone_piece, key_first, skipped_name, cut-length}
use Rattle.mappings.proofs.laws.examples_stand.Goals as goal

pub returns : goal.returns
returns c = record {
  empty = empty_section;
  nul = lone_nul;
  lone = lone_piece;
  key = key_first;
  skipped = skipped_name;
  cut = cut-length;
}
