use Rattle.std.proofs.Common.{sym}
use Rattle.shelf.proofs.Places.{rows_length}
use Rattle.shelf.proofs.shelf.Shelf.strips.Goals as goal

pub returns-clause-strips : goal.returns-clause-strips
returns-clause-strips c = sym (rows_length c.self.inside _ c.self.view_is)
