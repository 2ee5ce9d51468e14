use Rattle.std.proofs.Common.{rules, tests}
use Rattle.shelf.specs.Calls.{has_head}
use Rattle.shelf.proofs.Finds.{finds}
use Rattle.shelf.proofs.Places.{rows_length}
use Rattle.shelf.proofs.shelf.Shelf.keeping.Goals as goal

pub returns : goal.returns
returns c =
    finds c.args.self.now (has_head c.args.head.now) c.self.inside.strips _ (rows_length c.self.inside _ c.self.view_is) (λ k r q e. search (rules, tests)) c.find_map.result c.find_map.ensures.runs
