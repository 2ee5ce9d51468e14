use Rattle.std.proofs.Common.{◌≡◌, ◌+◌, ◌%◌, ap, ◌∙◌, rules}
use native.Mathlib.Nat.{add-mod-mod}
use Rattle.put.proofs.Chains.{appends_same, bytes_low}
use Rattle.facts.specs.Written.{u16}
use Rattle.put_facts.proofs.parts.put_above.Goals as goal

pub returns : goal.returns
returns c =
    let same : c.from.result ≡ c.args.base = search rules in
    appends_same (ap (λ b. u16 ((b + c.args.n % 65536) % 65536)) same ∙ ap u16 (add-mod-mod c.args.base c.args.n 65536) ∙ bytes_low 2 (c.args.base + c.args.n)) c.put_number.ensures
