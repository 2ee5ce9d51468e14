use Rattle.std.proofs.Common.{◌≡◌, Ok, refl, rules}
use Rattle.facts.specs.Head.{outcome}
use Rattle.shelf.specs.Calls.{count_answer}
use Rattle.shelf.specs.Histories.Event.{counted}
use Rattle.shelf.proofs.Law.{continues}
use Rattle.head_laws.proofs.Stands.{heads_speak}
use Rattle.shelf.proofs.shelf.Shelf.count.Goals as goal

pub returns-in_err-held-clause-law : goal.returns-in_err-held-clause-law
returns-in_err-held-clause-law c =
    let answer : outcome c.from_residual.result ≡ count_answer c.args.self.now c.args.group = search rules in
    continues heads_speak _ (counted _ _) _ (answer, refl)

pub returns-clause-law : goal.returns-clause-law
returns-clause-law c =
    let answer : Ok c.in_ok-held.held.group.count ≡ count_answer c.args.self.now c.args.group = search rules in
    continues heads_speak _ (counted _ _) _ (answer, refl)
