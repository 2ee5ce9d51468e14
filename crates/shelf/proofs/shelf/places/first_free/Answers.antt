use Rattle.std.proofs.Common.{◌∙◌, rules, tests}
use Rattle.std.proofs.lemmas.Iterator.{YieldsList-from_slice}
use Rattle.std.proofs.lemmas.Iterator.Search.{position_from_yields_List}
use Rattle.shelf.specs.Rows.{is_free}
use Rattle.shelf.proofs.Firsts.{first_position}
use Rattle.shelf.proofs.shelf.places.first_free.Goals as goal

pub returns : goal.returns
returns c =
    position_from_yields_List is_free _ _ c.position.result c.position.ensures.ran (YieldsList-from_slice c.args.groups.now cc) (λ x b q k. search (rules, tests))
    ∙ first_position is_free c.args.groups.now
