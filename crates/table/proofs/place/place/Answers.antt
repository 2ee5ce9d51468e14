use Rattle.std.proofs.Common.{◌≡◌, ◌-◌, ◌≤◌, length, get_or, Less, sym, ap, ◌∙◌, arith, rules}
use Rattle.table.specs.Rows.{blank}
use Rattle.table.proofs.Halves.{is_less, place_between}
use Rattle.table.proofs.place.place.Goals as goal

pub returns-in-Some-clause-is : goal.returns-in-Some-clause-is
returns-in-Some-clause-is g c = λ up.
    let m = g.K.Kind in
    let key = m.key c.args.kind.now in
    let rows = c.args.rows.now in
    let row = c.args.row.now in
    let all : length rows ≤ length rows = omega arith in
    let last : get_or rows (length rows - 1) blank ≡ c.in-Some.last.now = search rules in
    let less : m.order.cmp (key c.in-Some.last.now) (key row) ≡ Less = sym c.compare.ensures ∙ is_less c.compare.result (sym c.if-is_lt.ensures) in
    place_between m.order key rows row blank (length rows) up all (λ _. sym (ap (λ x. m.order.cmp (key x) (key row)) last ∙ less)) (λ h. absurd (omega arith))
