use Rattle.std.proofs.Common.{length}
use Rattle.table.specs.Order.{texts}
use Rattle.mappings.specs.MetaInfo.{meta_pairs}
use Rattle.mappings.proofs.Lasts.{answers_last}
use Rattle.mappings.proofs.meta_info.meta_info.Goals as goal

pub returns-clause-last : goal.returns-clause-last
returns-clause-last g c =
    let of_store = g.S.Store in
    answers_last texts (length c.args.rows.now) 129 (λ _ s. meta_pairs s) (of_store.endian c.args.store.now) ((of_store.map c.args.store.now).at 129) _ c.table_of.ensures.entries
