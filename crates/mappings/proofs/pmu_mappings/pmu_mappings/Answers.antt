use Rattle.std.proofs.Common.{length}
use Rattle.table.specs.Order.{numbers}
use Rattle.mappings.specs.PmuMappings.{pmu_items}
use Rattle.mappings.proofs.Lasts.{answers_last}
use Rattle.mappings.proofs.pmu_mappings.pmu_mappings.Goals as goal

pub returns-clause-last : goal.returns-clause-last
returns-clause-last g c =
    let of_store = g.S.Store in
    answers_last numbers (length c.args.rows.now) 16 pmu_items (of_store.endian c.args.store.now) ((of_store.map c.args.store.now).at 16) _ c.table_of.ensures.entries
