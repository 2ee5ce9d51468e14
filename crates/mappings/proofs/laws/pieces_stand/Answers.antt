use Rattle.mappings.proofs.Splitting.{splits}
use Rattle.mappings.proofs.laws.pieces_stand.Goals as goal

pub returns : goal.returns
returns c = splits
