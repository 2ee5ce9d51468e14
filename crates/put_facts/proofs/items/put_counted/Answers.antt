use Rattle.std.proofs.Common.{◌≡◌, ◌+◌, length, ap, ◌∙◌, arith}
use Rattle.facts.specs.Written.{u32}
use Rattle.put.specs.Overlay.{place}
use Rattle.put.proofs.Chains.{appends_before, appends_same, bytes-long, bytes_low}
use Rattle.put_facts.proofs.items.put_counted.Goals as goal

pub returns : goal.returns
returns g c =
    let p = c.put_items-count.ensures in
    let n = length p.items in
    let from : c.saturating_add.result ≡ place (c.at-start.result + length (u32 n)) = omega (arith, c.saturating_add.ensures, bytes-long 4 n) in
    record {
      items = p.items;
      drains = p.drains;
      appends =
          appends_before c.at-start.ensures from c.go_to.ensures p.appends c.at-end.ensures c.go_to-2.ensures
          (appends_same (ap u32 p.counts ∙ bytes_low 4 n) c.put_number.ensures) c.go_to-3.ensures;
    }
