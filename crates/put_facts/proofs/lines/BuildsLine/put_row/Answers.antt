use Rattle.std.proofs.Common.{◌+◌, length, ap}
use Rattle.facts.specs.Written.{u16, id_bytes}
use Rattle.put.proofs.Chains.{appends_then, appends_same}
use Rattle.put_facts.proofs.lines.BuildsLine.put_row.Goals as goal

pub returns : goal.returns
returns c =
    let path = c.path-path.ensures in
    appends_then c.put_number.ensures
    (appends_then c.put_above.ensures
    (appends_then (appends_same (ap (λ p. u16 (36 + length p)) path) c.put_above-2.ensures)
    (appends_then c.put_number-2.ensures
    (appends_then (appends_same (ap id_bytes c.id.ensures) c.put_id.ensures) (appends_same path c.put.ensures)))))
