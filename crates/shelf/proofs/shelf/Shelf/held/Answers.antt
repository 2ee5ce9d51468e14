use Rattle.std.proofs.Common.{◌∙◌}
use Rattle.shelf.proofs.Places.{held_on}
use Rattle.shelf.proofs.shelf.Shelf.held.Goals as goal

pub returns : goal.returns
returns c = c.held.ensures ∙ held_on c.self.inside _ c.self.view_is c.self.invariant
