use Rattle.std.proofs.Common.{◌*◌, ◌+◌, drop, vec_items, sym, ap, ◌∙◌, arith}
use Rattle.std.proofs.lemmas.Bool.{eqb-false}
use Rattle.hexadecimal.specs.Hex.{bytes_of, before}
use Rattle.hexadecimal.proofs.Pairs.{behind, behind_nothing, behind_more, before-not_high, before-not_low, odd_none, pair_read}
use Rattle.hexadecimal.proofs.decode.Goals as goal

pub returns-then-not-is_empty : goal.returns-then-not-is_empty
returns-then-not-is_empty c =
    let some = eqb-false _ 0 (sym c.is_empty.ensures ∙ c.if-not-is_empty.true) in
    sym (odd_none c.args.text.now (omega (arith, some, c.as_chunks.ensures.back_len)))

pub loop-high-init : goal.loop-high-init
loop-high-init c =
    ap (λ t. behind t (bytes_of c.args.text.now)) c.new-bytes.ensures.items ∙ behind_nothing (bytes_of c.args.text.now)

pub loop-high-preserved : goal.loop-high-preserved
loop-high-preserved c =
    let more = bytes_of (drop ((c.loop-high.high-index + 1) * 2) c.args.text.now) in
    let pair = pair_read c.args.text.now c.as_chunks.result.0.now c.loop-high.high-index c.loop-high-test.true c.as_chunks.ensures.front c.as_chunks.ensures.front_len in
    behind_more (vec_items c.loop-high.bytes) _ more _ _ c.in_ok-push.ensures.items
    ∙ (ap (behind (vec_items c.loop-high.bytes)) ((λ i. before (c.in-Some.ensures i) (c.in-Some-digit.ensures i) more) ∙ sym pair)
    ∙ c.loop-high.invariant)

pub returns-in_default : goal.returns-in_default
returns-in_default c =
    let pair = pair_read c.args.text.now c.as_chunks.result.0.now c.loop-high.high-index c.loop-high-test.true c.as_chunks.ensures.front c.as_chunks.ensures.front_len in
    ap (behind (vec_items c.loop-high.bytes)) (sym (pair ∙ before-not_high _ _ _ (sym c.digit.ensures ∙ c.in_default.is))) ∙ c.loop-high.invariant

pub returns-in_default-digit : goal.returns-in_default-digit
returns-in_default-digit c =
    let pair = pair_read c.args.text.now c.as_chunks.result.0.now c.loop-high.high-index c.loop-high-test.true c.as_chunks.ensures.front c.as_chunks.ensures.front_len in
    ap (behind (vec_items c.loop-high.bytes)) (sym (pair ∙ before-not_low _ _ _ (sym c.digit-in-loop-high.ensures ∙ c.in_default-digit.is))) ∙ c.loop-high.invariant
