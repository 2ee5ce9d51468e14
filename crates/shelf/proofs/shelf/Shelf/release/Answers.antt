use Rattle.std.proofs.Common.{◌≡◌, Ok, rules}
use Rattle.facts.specs.Head.{outcome}
use Rattle.shelf.specs.Calls.{release_answer, release_after}
use Rattle.shelf.specs.Histories.Event.{released}
use Rattle.shelf.proofs.Law.{continues}
use Rattle.head_laws.proofs.Stands.{heads_speak}
use Rattle.shelf.proofs.shelf.Shelf.release.Goals as goal

pub returns-in_err-held-clause-law : goal.returns-in_err-held-clause-law
returns-in_err-held-clause-law c =
    let answer : outcome c.from_residual.result ≡ release_answer c.args.self.now c.args.group = search rules in
    let after : c.args.self.now ≡ release_after c.args.self.now c.args.group = search rules in
    continues heads_speak _ (released _ _) _ (answer, after)

pub returns-then-held-gt1-clause-law : goal.returns-then-held-gt1-clause-law
returns-then-held-gt1-clause-law c =
    let answer : Ok tt ≡ release_answer c.args.self.now c.args.group = search rules in
    let after : c.recount.new.self ≡ release_after c.args.self.now c.args.group = search rules in
    continues heads_speak _ (released _ _) _ (answer, after)

pub returns-else-held-gt1-clause-law : goal.returns-else-held-gt1-clause-law
returns-else-held-gt1-clause-law c =
    let answer : Ok tt ≡ release_answer c.args.self.now c.args.group = search rules in
    let after : c.clear.new.self ≡ release_after c.args.self.now c.args.group = search rules in
    continues heads_speak _ (released _ _) _ (answer, after)
