use Rattle.std.proofs.Common.{◌≡◌, ◌+◌, [], ◌∷◌, ◌++◌, Ok, Err, sym, ap, ◌∙◌, subst, append-nil, arith, rules}
use Rattle.std.proofs.lemmas.Result.{err_from_is_err_and}
use Rattle.wire.specs.Faults.{fault_of}
use Rattle.table.specs.Order.{texts}
use Rattle.table.specs.Rows.{key_part}
use Rattle.table.specs.Table.{tabled}
use Rattle.table.specs.Fills.{Holds}
use Rattle.mappings.specs.MetaInfo.{paired, pair_row, pieces, pieces_from}
use Rattle.mappings.proofs.Joins.{joined, joined_none, joined_more, fault_made, table_made}
use Rattle.mappings.proofs.Pieces.{pieces_here}
use Rattle.mappings.proofs.Pairs.{pairs-none, pairs-fault, pair_told}
use Rattle.mappings.proofs.meta_info.MetaInfoMapping.read.Goals as goal

pub loop-row-init : goal.loop-row-init
loop-row-init c =
    let s = c.args.section.bytes.now in
    ([], c.start-builder.ensures.holds, ap (paired pair_row) (sym (pieces_here s 0 (omega arith))) ∙ joined_none (paired pair_row (pieces_from s 0)), omega arith, search rules)

pub loop-row-smaller : goal.loop-row-smaller
loop-row-smaller c =
    let told = pair_told c.args.section.bytes.now c.loop-row.at c.in-Some.row (sym c.in_ok-row.ensures ∙ ap Ok c.in-Some.is) in
    omega (arith, told.further, told.inside)

pub loop-row-preserved : goal.loop-row-preserved
loop-row-preserved c =
    let s = c.args.section.bytes.now in
    let so_far = c.loop-row.invariant.0 in
    let row = c.in-Some.row in
    let told = pair_told s c.loop-row.at row (sym c.in_ok-row.ensures ∙ ap Ok c.in-Some.is) in (
      so_far ++ row ∷ [],
      c.add.ensures.added so_far c.loop-row.invariant.1,
      c.loop-row.invariant.2 ∙ ap (joined so_far) told.more ∙ joined_more so_far row (paired pair_row (pieces_from s (row.value_at + row.value_len + 1))),
      omega (arith, told.inside),
      search rules,
    )

pub returns-in_err-row-clause-made : goal.returns-in_err-row-clause-made
returns-in_err-row-clause-made c =
    let s = c.args.section.bytes.now in
    let e = c.in_err-row.field-0.0 in
    let p = err_from_is_err_and c.from_residual.result c.from_residual.ensures.1 in
    fault_made texts (key_part s) (paired pair_row (pieces 0 s)) _ c.from_residual.result e
    (c.loop-row.invariant.2 ∙ ap (joined c.loop-row.invariant.0) (pairs-fault pair_row (pieces_from s c.loop-row.at) (fault_of e) (sym c.in_err-row.ensures)))
    (p.1 ∙ ap Err p.2)

pub returns-clause-made : goal.returns-clause-made
returns-clause-made c =
    let s = c.args.section.bytes.now in
    let so_far = c.loop-row.invariant.0 in
    let builder = c.loop-row.builder in
    let kind : key_part builder.kind.section.now ≡ key_part s = ap (λ kind. key_part kind.section.now) (c.loop-row.invariant.4.0 ∙ c.start-builder.ensures.same_kind) in
    table_made texts (key_part s) (paired pair_row (pieces 0 s)) _ so_far c.finish.result
    (c.loop-row.invariant.2
    ∙ ap (joined so_far) (pairs-none pair_row (pieces_from s c.loop-row.at) (sym c.in_ok-row.ensures ∙ ap Ok c.in_default.is))
    ∙ ap Ok (append-nil so_far))
    (let done = c.finish.ensures.holds (tabled texts (key_part s) so_far) (subst (λ key. Holds (tabled texts key so_far) builder.used builder.rows.now) kind c.loop-row.invariant.1) in
    search rules)
