use Rattle.std.proofs.Common.{ℕ, List, length, IfSome, Some, None, Ok, Option, ◌∙◌}
use Rattle.wire.specs.declared.order.ByteOrder.{ByteOrder}
use Rattle.dso_key.specs.Order.{keys}
use Rattle.mappings.proofs.Lasts.{answers_last}
use Rattle.build_ids.specs.Events.{records}
use Rattle.build_ids.specs.Laws.{RecordsFollow}
use Rattle.build_ids.specs.Table.{entries_of}
use Rattle.build_ids.proofs.Answered.{count-is, entries_answered}
use Rattle.build_ids.proofs.Following.{records-follow}
use Rattle.build_ids.proofs.perf_file.build_ids.Goals as goal

pub returns-clause-is : goal.returns-clause-is
returns-clause-is g c =
    let of_store = g.S.Store in
    c.read.ensures.is ∙ count-is (length c.args.rows.now) (of_store.endian c.args.store.now) ((of_store.map c.args.store.now).at 2)

pub returns-clause-entries : goal.returns-clause-entries
returns-clause-entries g c =
    let of_store = g.S.Store in
    entries_answered (length c.args.rows.now) (of_store.endian c.args.store.now) ((of_store.map c.args.store.now).at 2) _ _ c.read.ensures.is c.read.ensures.after

pub returns-clause-last : goal.returns-clause-last
returns-clause-last g c =
    let of_store = g.S.Store in
    answers_last keys (length c.args.rows.now) 2 (λ o s. Ok (entries_of (records o s))) (of_store.endian c.args.store.now) ((of_store.map c.args.store.now).at 2) _
    (returns-clause-entries g c)

follow_of : (o : ByteOrder) (section : Option (List ℕ)) → IfSome section (λ s. RecordsFollow o s 0 (records o s))
follow_of o None = tt
follow_of o (Some s) = records-follow o s

pub returns-clause-records : goal.returns-clause-records
returns-clause-records g c =
    let of_store = g.S.Store in
    follow_of (of_store.endian c.args.store.now) ((of_store.map c.args.store.now).at 2)
