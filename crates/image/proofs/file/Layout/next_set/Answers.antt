use Rattle.std.proofs.Common.{◌≡◌, ℕ, ◌+◌, ◌/◌, ◌%◌, ◌^◌, ◌<◌, ◌≤◌, ap, sym, ◌∙◌, subst, ⊎_elim, arith}
use Rattle.std.proofs.lemmas.Bool.{cases_lt}
use Rattle.std.proofs.lemmas.Nat.{shr_le}
use Rattle.image.specs.File.{IsNextSet}
use Rattle.image.proofs.Bits.{rest_none, rest_some}
use Rattle.std.specs.Int.{w64, trailing_zeros}
use Rattle.image.proofs.file.Layout.next_set.Goals as goal

pub returns-then-rest-ne0 : goal.returns-then-rest-ne0
returns-then-rest-ne0 c =
    let n : ℕ = c.loop-n.n in
    let word : ℕ = c.word.result in
    let wide : word < 2 ^ 64 = omega (arith, c.word.type_inv) in
    let some : 0 < word / 2 ^ (n % 64) = omega (arith, c.if-rest-ne0.true) in
    let fits : word / 2 ^ (n % 64) < 2 ^ 64 = omega (arith, wide, shr_le word (n % 64)) in
    let is = c.word.ensures in
    subst
    (λ w. IsNextSet c.args.self.now.order c.args.self.now.image.now c.args.from (n + trailing_zeros w64 (w / 2 ^ (n % 64))))
    (sym is)
    (rest_some c.args.self.now.order c.args.self.now.image.now c.args.from n c.loop-n.invariant.0 c.loop-n-test.true c.loop-n.invariant.2
    (subst (λ w. w < 2 ^ 64) is wide)
    (subst (λ w. 0 < w / 2 ^ (n % 64)) is some)
    (subst (λ w. w / 2 ^ (n % 64) < 2 ^ 64) is fits))

pub loop-n-preserved : goal.loop-n-preserved
loop-n-preserved c =
    let n : ℕ = c.loop-n.n in
    let none : c.word.result / 2 ^ (n % 64) ≡ 0 = omega (arith, c.if-rest-ne0.false) in
    let rest = ap (λ w. w / 2 ^ (n % 64)) (sym c.word.ensures) ∙ none in (
      omega (arith, c.loop-n.invariant.0),
      omega (arith, c.loop-n-test.true),
      λ k a b. ⊎_elim
          (λ (l : k < n). c.loop-n.invariant.2 k a l)
          (λ (l : n ≤ k). rest_none c.args.self.now.order c.args.self.now.image.now n k rest l b)
          (cases_lt k n),
    )
