use Rattle.std.proofs.Common.{◌≡◌, ◌-◌, ◌<◌, ◌≤◌, length, get_or, Less, Greater}
use Rattle.table.specs.Rows.{blank}
use Rattle.table.proofs.place.place_by_halves.Given as goal

-- the row before `low` is less, and the row `high` is greater, where there are such rows
abbrev pub invariant-loop-low : goal.invariant-loop-low
invariant-loop-low g l =
    let m = g.K.Kind in
    let key = m.key l.kind in
    (l.low ≤ l.high) × (l.high ≤ length l.rows)
    × (0 < l.low → Less ≡ m.order.cmp (key (get_or l.rows (l.low - 1) blank)) (key l.row))
    × (l.high < length l.rows → Greater ≡ m.order.cmp (key (get_or l.rows l.high blank)) (key l.row))

abbrev pub decreases-loop-low : goal.decreases-loop-low
decreases-loop-low g l = l.high - l.low
