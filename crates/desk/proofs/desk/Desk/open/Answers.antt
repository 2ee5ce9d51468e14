use Rattle.std.proofs.Common.{◌≡◌, ℕ, List, replicate, ap, ◌∙◌}
use Rattle.facts.specs.Head.{outcome}
use Rattle.shelf.specs.Calls.{open_answer, opening}
use Rattle.desk.specs.Calls.{bytes_made, first_number}
use Rattle.desk.proofs.desk.Desk.open.Goals as goal

pub returns-clause-answer : goal.returns-clause-answer
returns-clause-answer c =
    let bytes : c.in_ok-bytes.bytes.items ≡ bytes_made c.args.opening.bytes = c.in_ok-bytes.ensures ∙ ap (λ n. replicate n 0) c.min.ensures in
    c.open-shelf.ensures.answer
    ∙ (ap (λ n. open_answer c.args.opening.strip n c.in_ok-bytes.bytes.items) c.first_number-first.ensures
    ∙ ap (λ b. open_answer c.args.opening.strip (first_number c.args.opening.first) b) bytes)

pub returns-clause-shelf : goal.returns-clause-shelf
returns-clause-shelf c =
    let bytes : c.in_ok-bytes.bytes.items ≡ bytes_made c.args.opening.bytes = c.in_ok-bytes.ensures ∙ ap (λ n. replicate n 0) c.min.ensures in
    c.open-shelf.ensures.shelf
    ∙ (ap (λ n. opening c.args.opening.strip n c.in_ok-bytes.bytes.items) c.first_number-first.ensures
    ∙ ap (λ b. opening c.args.opening.strip (first_number c.args.opening.first) b) bytes)
