use Rattle.std.proofs.Common.{◌≡◌, false, eqb, [], ◌∷◌, ◌++◌, get_or, subst, rules}
use Rattle.table.specs.Fills.{Filled}
use Rattle.table.specs.Order.{numbers}
use Rattle.table_cases.specs.Reads.{item}
use Rattle.table_cases.proofs.Items.{items_more}
use Rattle.table_cases.proofs.reader.read.Goals as goal

pub loop-at-preserved : goal.loop-at-preserved
loop-at-preserved c =
    let s = c.args.section.now in
    let so_far = c.loop-at.invariant.0 in
    let b = get_or s c.loop-at.at 0 in
    let same : eqb b 255 ≡ false = search rules in (
      so_far ++ item b ∷ [],
      subst (λ r. Filled numbers (λ _ row. row.number) (so_far ++ r ∷ []) c.add.new.self) c.item.ensures (c.add.ensures.added so_far c.loop-at.invariant.1),
      items_more s so_far c.loop-at.at c.loop-at.invariant.2 c.loop-at-test.true same,
      search rules,
    )
