use Rattle.std.proofs.Common.{subst, rules, tests}
use Rattle.shelf.specs.Stands.{FindsGroup, has_number}
use Rattle.shelf.proofs.Finds.{finds, place_numbered}
use Rattle.shelf.proofs.Places.{rows_length}
use Rattle.shelf.proofs.shelf.Shelf.place_of.Goals as goal

pub returns : goal.returns
returns c =
    let now = c.args.self.now in
    subst (λ o. FindsGroup now o c.find_map.result) (place_numbered now c.args.number)
    (finds now (has_number c.args.number) c.self.inside.strips _ (rows_length c.self.inside _ c.self.view_is) (λ k r q e. search (rules, tests)) c.find_map.result c.find_map.ensures.runs)
