use Rattle.std.proofs.Common.{◌≡◌, ℕ, ◌-◌, List, length, take, replicate, ap, ◌∙◌, arith}
use Rattle.std.proofs.lemmas.List.{take-replicate}
use Rattle.wire.specs.Numbers.{bytes_of}
use Rattle.put.proofs.Chains.{appends_then, appends_same}
use Rattle.put_facts.proofs.parts.put_id.Goals as goal

pub returns : goal.returns
unfolding bytes_of
returns c =
    let k : c.saturating_sub.result ≡ 20 - length c.args.id.now = omega (arith, c.saturating_sub.ensures) in
    let zeros : ◌≡◌ {A = List ℕ} (take (c.saturating_sub.result) (replicate 20 0)) (replicate (20 - length c.args.id.now) 0) =
    ap (λ n. take n (replicate 20 0)) k ∙ take-replicate (20 - length c.args.id.now) 20 0 (omega arith) in
    appends_then c.put.ensures (appends_then (appends_same zeros c.put-2.ensures) c.put-3.ensures)
