use Rattle.std.proofs.Common.{◌≡◌, ℕ, ◌+◌, ◌-◌, ◌/◌, ◌<◌, ◌≤◌, length, get_or, ap, ◌∙◌, arith}
use Rattle.table.specs.Rows.{blank}
use Rattle.table.proofs.Halves.{place_at, place_between}
use Rattle.table.proofs.place.place_by_halves.Goals as goal

pub returns-in-Equal : goal.returns-in-Equal
returns-in-Equal g c =
    let m = g.K.Kind in
    let mid : ℕ = c.loop-low.low + (c.loop-low.high - c.loop-low.low) / 2 in
    let below : mid < c.loop-low.high = omega arith in
    let within : mid < length c.args.rows.now = omega (arith, c.loop-low.invariant.1) in
    record {
      within = within;
      is = λ up. place_at m.order (m.key c.args.kind.now) c.args.rows.now c.args.row.now blank mid up within c.in-Equal.ensures;
    }

pub returns : goal.returns
returns g c =
    let m = g.K.Kind in
    let key = m.key c.args.kind.now in
    let rows = c.args.rows.now in
    let row = c.args.row.now in
    let met : c.loop-low.high ≡ c.loop-low.low = omega (arith, c.loop-low.invariant.0) in
    let within : c.loop-low.low ≤ length rows = omega (arith, c.loop-low.invariant.1) in
    record {
      within = within;
      is = λ up. place_between m.order key rows row blank c.loop-low.low up within c.loop-low.invariant.2
          (λ h. let l : c.loop-low.high < length rows = omega arith in
          c.loop-low.invariant.3 l ∙ ap (λ k. m.order.cmp (key (get_or rows k blank)) (key row)) met);
    }
