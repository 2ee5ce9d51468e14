use Rattle.std.proofs.Common.{◌≡◌, vec_items, arith, rules}
use Rattle.shelf.specs.Calls.{opening}
use Rattle.shelf.specs.Histories.Ran.{opened}
use Rattle.shelf.proofs.Law.{goes}
use Rattle.head_laws.proofs.Stands.{heads_speak}
use Rattle.shelf.proofs.shelf.Shelf.open.Goals as goal

pub returns-then-in_bounds-clause-law : goal.returns-then-in_bounds-clause-law
returns-then-in_bounds-clause-law c =
    let shelf : c.empty.result ≡ opening c.args.strip c.args.first (vec_items c.args.bytes) = search rules in
    goes heads_speak _ _ (opened c.args.strip c.args.first (vec_items c.args.bytes) _ (omega arith) shelf)

pub returns-else-in_bounds-clause-law : goal.returns-else-in_bounds-clause-law
returns-else-in_bounds-clause-law c =
    let shelf : c.without.result ≡ opening c.args.strip c.args.first (vec_items c.args.bytes) = search rules in
    goes heads_speak _ _ (opened c.args.strip c.args.first (vec_items c.args.bytes) _ (omega arith) shelf)
