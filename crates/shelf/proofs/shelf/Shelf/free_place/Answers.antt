use Rattle.std.proofs.Common.{◌∙◌}
use Rattle.shelf.specs.Calls.{free_place}
use Rattle.shelf.proofs.Places.{free_on}
use Rattle.shelf.proofs.shelf.Shelf.free_place.Goals as goal

pub returns : goal.returns
unfolding free_place
returns c = c.first_free.ensures ∙ free_on c.self.inside _ c.self.view_is c.self.invariant
