use Rattle.std.proofs.Common.{◌≡◌, ℕ, ◌+◌, ◌-◌, length, Some, sym, ap, ◌∙◌, arith, rules}
use Rattle.text.specs.Refusals.{refusal_of}
use Rattle.wire.specs.Faults.{fault_of}
use Rattle.perf_data.specs.Texts.{texts_in, first_fault}
use Rattle.perf_data.proofs.Reading.{handed_on, matched_ok, matched_fault, rest_shorter, fault-more, fault_here, fault-none}
use Rattle.perf_data.proofs.string_list.check_texts.Goals as goal

pub returns-in_err-after : goal.returns-in_err-after
returns-in_err-after c =
    let fault = matched_fault c.read_string.result _ _ c.in_err-after.ensures.cases (λ _ h. cc) in
    let e = sym c.read_string.ensures.is ∙ fault.1 in
    let at : ℕ = length c.args.section.bytes.now - length c.loop.rest.now in
    let told : c.in_err-after.field-0.0 ≡ refusal_of fault.0 11 at = search (rules, fault.2) in
    handed_on _ _ c.from_residual.ensures.1
    ∙ ap (λ r. Some (fault_of r)) told
    ∙ sym (c.loop.invariant.0 ∙ fault_here 11 c.args.section.order (length c.args.section.bytes.now) _ c.loop.rest.now _ (omega arith) e)

pub loop-preserved : goal.loop-preserved
loop-preserved c =
    let total : ℕ = length c.args.section.bytes.now in
    let e = sym c.read_string.ensures.is ∙ matched_ok c.read_string.result _ _ c.in_ok-after.ensures.cases (λ _ h. h) (c.in_ok-after.field-0-0, c.in_ok-after.after) (λ _ h. cc) in
    let less : c.args.count - c.loop.counter - 1 ≡ c.args.count - (c.loop.counter + 1) = omega arith in
    let short = rest_shorter c.args.section.order c.loop.rest.now _ e in (
      c.loop.invariant.0
          ∙ (fault-more 11 c.args.section.order total _ c.loop.rest.now _ (omega arith) e
          ∙ ap (λ n. first_fault (texts_in 11 c.args.section.order total n c.in_ok-after.after.now)) less),
      omega arith,
    )

pub returns : goal.returns
returns c = sym (c.loop.invariant.0 ∙ fault-none 11 c.args.section.order (length c.args.section.bytes.now) _ c.loop.rest.now (omega arith))
