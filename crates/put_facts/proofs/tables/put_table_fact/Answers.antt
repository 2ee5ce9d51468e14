use Rattle.std.proofs.Common.{length, take, sym, ap, ◌∙◌}
use Rattle.std.specs.List.{flat_map}
use Rattle.std.proofs.lemmas.List.Folds.{flat_map-map}
use Rattle.mappings.specs.MetaInfo.{meta_info}
use Rattle.mappings.specs.PmuMappings.{key_of, pmu_names}
use Rattle.mappings.specs.Tables.{within, bytes_in}
use Rattle.perf_data.specs.Questions.{answered}
use Rattle.table.specs.Rows.{key_part, entry_of}
use Rattle.facts.specs.Tables.{feature_of}
use Rattle.facts.specs.Facts.{names, pairs, write}
use Rattle.facts.specs.Written.{counted_bytes, name_bytes, pair_bytes}
use Rattle.put_facts.specs.Builds.{row_bytes}
use Rattle.put_facts.proofs.Arms.{writes_at}
use Rattle.put_facts.proofs.BuildsTold.{builds_tell}
use Rattle.put_facts.proofs.Drained.{counted-map}
use Rattle.put_facts.proofs.Telling.{table_tells, writes_same}
use Rattle.put_facts.proofs.tables.put_table_fact.Goals as goal

pub returns-in-BuildIds-clause-writes : goal.returns-in-BuildIds-clause-writes
returns-in-BuildIds-clause-writes g c =
    let o = g.S.Store.endian c.args.store.now in
    let at = (g.S.Store.map c.args.store.now).at in
    let used = c.build_ids-used in
    writes_at (ap feature_of c.in-BuildIds.is) (length c.args.rows.now) o at
    (writes_same
    (ap (λ s. answered (λ n. flat_map (row_bytes s) (take n used.new.rows)) used.result) c.section_bytes-section.ensures
    ∙ builds_tell (length c.args.rows.now) o (at 2) used.result used.new.rows used.ensures.is used.ensures.after)
    c.put_table.ensures.writes)

pub returns-in-PmuNames-clause-writes : goal.returns-in-PmuNames-clause-writes
unfolding write
returns-in-PmuNames-clause-writes g c =
    let o = g.S.Store.endian c.args.store.now in
    let at = (g.S.Store.map c.args.store.now).at in
    let used = c.pmu_mappings-used in
    let row = entry_of key_of (bytes_in (at 16)) in
    writes_at (ap feature_of c.in-PmuNames.is) (length c.args.rows.now) o at
    (writes_same
    (ap (λ s. answered (λ n. counted_bytes (λ r. name_bytes (entry_of key_of s r)) (take n used.new.rows)) used.result) c.section_bytes-section-in-PmuNames.ensures
    ∙ table_tells names (counted_bytes (λ r. name_bytes (row r))) row (counted-map name_bytes row) used.new.rows used.result
    (λ o s. within 16 (length c.args.rows.now) (pmu_names o s)) o (at 16) used.ensures.entries)
    c.put_table-in-PmuNames.ensures.writes)

pub returns-in-MetaInfo-clause-writes : goal.returns-in-MetaInfo-clause-writes
unfolding write
returns-in-MetaInfo-clause-writes g c =
    let o = g.S.Store.endian c.args.store.now in
    let at = (g.S.Store.map c.args.store.now).at in
    let used = c.meta_info-used in
    let row = entry_of (key_part (bytes_in (at 129))) (bytes_in (at 129)) in
    writes_at (ap feature_of c.in-MetaInfo.is) (length c.args.rows.now) o at
    (writes_same
    (ap (λ s. answered (λ n. flat_map (λ r. pair_bytes (entry_of (key_part s) s r)) (take n used.new.rows)) used.result) c.section_bytes-section-in-MetaInfo.ensures
    ∙ table_tells pairs (flat_map (λ r. pair_bytes (row r))) row (λ rs. sym (flat_map-map pair_bytes row rs)) used.new.rows used.result
    (λ o s. within 129 (length c.args.rows.now) (meta_info o s)) o (at 129) used.ensures.entries)
    c.put_table-in-MetaInfo.ensures.writes)
