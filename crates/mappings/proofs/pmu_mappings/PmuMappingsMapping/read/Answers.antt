use Rattle.std.proofs.Common.{◌≡◌, ℕ, ◌+◌, ◌-◌, ◌≤◌, ◌++◌, length, Ok, Err, sym, ap, ◌∙◌, subst, append-nil, arith, rules}
use Rattle.std.specs.Option.{option_to_list}
use Rattle.std.proofs.lemmas.Result.{err_from_is_err_and}
use Rattle.table.specs.Fills.{Filled, IsSameFill}
use Rattle.table.specs.Order.{numbers}
use Rattle.table.specs.Table.{tabled}
use Rattle.mappings.specs.PmuMappings.{name_row, key_of, items, items_in, given_before}
use Rattle.mappings.proofs.Joins.{joined, fault_made, table_made}
use Rattle.mappings.proofs.PmuItems.{items-next, items-none, item_shorter, given-next}
use Rattle.mappings.proofs.pmu_mappings.PmuMappingsMapping.read.Goals as goal
use Rattle.mappings.proofs.pmu_mappings.PmuMappingsMapping.read.Goals.{in-Some-row, in_default-row}

pub loop-preserved : goal.loop-preserved
loop-preserved c =
    let o = c.args.section.order in
    let total = length c.args.section.bytes.now in
    let so_far = c.loop.invariant.0 in
    let i = c.in_ok-item.item in
    let left : ℕ = c.in-Some.count - c.loop.counter in
    let is = sym c.in_ok-item.ensures in
    let less : left - 1 ≡ c.in-Some.count - (c.loop.counter + 1) = omega arith in
    let short = item_shorter name_row o _ c.loop.rest.now _ is in
    let within : length i.rest.now ≤ total = omega arith in
    let all =
    c.loop.invariant.2
    ∙ ap (joined so_far) (items-next name_row o total left c.loop.rest.now _ (omega arith) is ∙ ap (λ k. given_before i.row (items_in name_row o total k i.rest.now)) less)
    ∙ given-next so_far i.row (items_in name_row o total (c.in-Some.count - (c.loop.counter + 1)) i.rest.now) in
    let builder = c.loop.builder in
    let start = c.start-builder.result in
    -- what the item gives is in the table, if it gives something
    let given : Filled numbers (λ _. key_of) (so_far ++ option_to_list i.row) c.match-item.builder × IsSameFill c.match-item.builder start =
    elim c.match-item.branch [
      | in-Some-row w ↦
          subst (λ f. Filled numbers (λ _. key_of) (so_far ++ option_to_list i.row) f × IsSameFill f start) (sym w.builder-is) (
            subst (λ g. Filled numbers (λ _. key_of) (so_far ++ option_to_list g) w.add.new.self) (sym w.in-Some-row.is) (w.add.ensures.added so_far c.loop.invariant.1),
            search rules,
          )
      | in_default-row w ↦
          subst (λ f. Filled numbers (λ _. key_of) (so_far ++ option_to_list i.row) f × IsSameFill f start) (sym w.builder-is) (
            subst (λ xs. Filled numbers (λ _. key_of) xs builder) (sym (ap (λ g. so_far ++ option_to_list g) w.in_default-row.is ∙ append-nil so_far)) c.loop.invariant.1,
            c.loop.invariant.4,
          )
    ] in
    (so_far ++ option_to_list i.row, given.0, all, within, given.1)

pub returns-in_err-item-clause-made : goal.returns-in_err-item-clause-made
returns-in_err-item-clause-made c =
    let o = c.args.section.order in
    let s = c.args.section.bytes.now in
    let e = c.in_err-item.field-0.0 in
    let p = err_from_is_err_and c.from_residual.result c.from_residual.ensures.1 in
    fault_made numbers key_of (items name_row o s) _ c.from_residual.result e
    (c.loop.invariant.2 ∙ ap (joined c.loop.invariant.0) (items-next name_row o (length s) _ c.loop.rest.now _ (omega arith) (sym c.in_err-item.ensures)))
    (p.1 ∙ ap Err p.2)

pub returns-clause-made : goal.returns-clause-made
returns-clause-made c =
    let o = c.args.section.order in
    let s = c.args.section.bytes.now in
    let so_far = c.loop.invariant.0 in
    table_made numbers key_of (items name_row o s) _ so_far c.finish.result
    (c.loop.invariant.2 ∙ ap (joined so_far) (items-none name_row o (length s) _ c.loop.rest.now (omega arith)) ∙ ap Ok (append-nil so_far))
    (let done = c.finish.ensures.holds (tabled numbers key_of so_far) c.loop.invariant.1 in search rules)
