use Rattle.std.proofs.Common.{◌≡◌, ◌++◌, length, drop, Ok, refl, rules}
use Rattle.facts.specs.Head.{ahead, length_of, outcome}
use Rattle.shelf.specs.Calls.{head_shown, refused}
use Rattle.shelf.specs.Histories.Event.{shown}
use Rattle.shelf.proofs.Law.{continues}
use Rattle.head_laws.proofs.Stands.{heads_speak}
use Rattle.shelf.proofs.shelf.Shelf.show.Goals as goal

pub returns-in_err-held-clause-law : goal.returns-in_err-held-clause-law
returns-in_err-held-clause-law c =
    let out = c.args.out.now in
    let answer : outcome c.from_residual.result ≡ length_of (head_shown c.args.self.now c.args.group (length out)) = search rules in
    let after : out ≡ ahead (head_shown c.args.self.now c.args.group (length out)) out = search rules in
    continues heads_speak _ (shown _ _ _ _) _ (answer, after, refl)

pub returns-then-head-out-clause-law : goal.returns-then-head-out-clause-law
returns-then-head-out-clause-law c =
    let out = c.args.out.now in
    let answer : refused 32 ≡ length_of (head_shown c.args.self.now c.args.group (length out)) = search rules in
    let after : out ≡ ahead (head_shown c.args.self.now c.args.group (length out)) out = search rules in
    continues heads_speak _ (shown _ _ _ _) _ (answer, after, refl)

pub returns-clause-law : goal.returns-clause-law
returns-clause-law c =
    let out = c.args.out.now in
    let answer : Ok (length c.head_at-head.result.now) ≡ length_of (head_shown c.args.self.now c.args.group (length out)) = search rules in
    let after : c.copy_from_slice.new.self ++ drop (length c.head_at-head.result.now) out ≡ ahead (head_shown c.args.self.now c.args.group (length out)) out = search rules in
    continues heads_speak _ (shown _ _ _ _) _ (answer, after, refl)
