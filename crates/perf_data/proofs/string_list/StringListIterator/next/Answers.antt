use Rattle.std.proofs.Common.{◌≡◌, ◌-◌, ◌<◌, ◌∷◌, sym, ap, ◌∙◌, arith}
use Rattle.perf_data.specs.Texts.{readable}
use Rattle.perf_data.proofs.Reading.{read_ok, read_fault, readable-none, readable-more, readable_stop}
use Rattle.perf_data.proofs.string_list.StringListIterator.next.Goals as goal

pub returns-in_err-self-clause-steps : goal.returns-in_err-self-clause-steps
returns-in_err-self-clause-steps c =
    let none : c.args.self.now.left ≡ 0 = omega (arith, c.in_err-self.ensures) in
    let e = readable-none c.args.self.now.order _ c.args.self.now.rest.now none in
    rw c.from_residual.ensures (e, e)

pub returns-in_err-text-clause-steps : goal.returns-in_err-text-clause-steps
returns-in_err-text-clause-steps c =
    let s = c.args.self.now in
    let fault = read_fault c.read_string.result c.in_err-text.ensures.value in
    let e = sym c.read_string.ensures.is ∙ fault.1 in
    rw c.from_residual-in_err-text.ensures (readable_stop s.order s.left s.rest.now _ e, readable_stop s.order c.in_ok-self.field-0 s.rest.now _ e)

pub returns-clause-steps : goal.returns-clause-steps
returns-clause-steps c =
    let s = c.args.self.now in
    let some : 0 < s.left = omega (arith, c.in_ok-self.ensures) in
    let less : s.left - 1 ≡ c.in_ok-self.field-0 = omega (arith, c.in_ok-self.ensures) in
    readable-more s.order s.left s.rest.now _ some (sym c.read_string.ensures.is ∙ read_ok c.read_string.result _ c.in_ok-text.ensures.value)
    ∙ ap (λ k. c.in_ok-text.text.now ∷ readable s.order k c.in_ok-text.rest.now) less
