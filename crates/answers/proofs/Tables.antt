-- The rows of a table are written as its entries.
use Rattle.std.proofs.Common.{◌≡◌, ℕ, List, ◌++◌, map, take, Some, None, Ok, Err, Option, Result, codes, sym, refl, ap, ◌∙◌, subst}
use Rattle.std.specs.Prelude.{⊤}
use Rattle.std.specs.Fmt.{decimal}
use Rattle.std.proofs.lemmas.List.{length-map}
use Rattle.std.proofs.lemmas.List.Folds.{flat_map-map}
use Rattle.wire.specs.declared.order.ByteOrder.{ByteOrder}
use Rattle.wire.specs.declared.refusal.Fault.{Fault}
use Rattle.wire.specs.declared.refusal.Refusal.{Refusal}
use Rattle.table.specs.Rows.{key_part, entry_of}
use Rattle.table.specs.declared.row.Row.{Row}
use Rattle.perf_data.specs.Questions.{question, answered}
use Rattle.mappings.specs.Tables.{within, entries_in, bytes_in}
use Rattle.mappings.specs.PmuMappings.{key_of, pmu_names}
use Rattle.mappings.specs.MetaInfo.{meta_info}
use Rattle.build_ids.specs.Rows.{entry_in, builds_in}
use Rattle.build_ids.specs.Table.{build_ids}
use Rattle.answers.specs.Answers.{answer_text}
use Rattle.answers.specs.Rows.{rows_text, pmu_entry_text, meta_entry_text, build_entry_text, pmu_row_text, meta_row_text, build_row_text, pmu_text, meta_text, builds_text}

entries_told : {E : Type 0} (f : E → List ℕ) (entry : Row → E) (rows : List Row) (r : Result (Option ℕ) Refusal) → answer_text (λ n. rows_text (λ row. f (entry row)) (take n rows)) (answered (λ n. n) r) ≡ answer_text (rows_text f) (answered (λ n. map entry (take n rows)) r)
entries_told f entry rows (Ok None) = refl
entries_told f entry rows (Err e) = refl
entries_told f entry rows (Ok (Some n)) =
    λ i. codes "rows " ++ decimal (sym (length-map (take n rows) entry) i) ++ sym (flat_map-map f entry (take n rows)) i

abbrev IsAbsent : {V : Type 0} → Result (Option V) Fault → Type 0
IsAbsent (Ok None) = ⊤
IsAbsent (Ok (Some v)) = ⊥
IsAbsent (Err f) = ⊥

-- where an answer is absent, nothing of it is written
absent_told : {X V : Type 0} (value : X → V) (text : X → List ℕ) (r : Result (Option X) Refusal) → answered value r ≡ Ok None → answer_text text (answered (λ x. x) r) ≡ codes "absent"
absent_told value text (Ok None) e = refl
absent_told value text (Ok (Some x)) e = absurd (subst IsAbsent (sym e) tt)
absent_told value text (Err f) e = absurd (subst IsAbsent (sym e) tt)

module _ (o : ByteOrder) (n : ℕ) (rows : List Row) (r : Result (Option ℕ) Refusal) where
  pub pmu_told : (section : Option (List ℕ)) → answered (entries_in key_of (bytes_in section) rows) r ≡ question (λ o s. within 16 n (pmu_names o s)) o section → answer_text (λ k. rows_text (pmu_row_text section) (take k rows)) (answered (λ k. k) r) ≡ pmu_text o section n
  pmu_told None e = absent_told _ _ r e
  pmu_told (Some s) e = entries_told pmu_entry_text (entry_of key_of s) rows r ∙ ap (answer_text (rows_text pmu_entry_text)) e

  pub meta_told : (section : Option (List ℕ)) → answered (entries_in (key_part (bytes_in section)) (bytes_in section) rows) r ≡ question (λ o s. within 129 n (meta_info o s)) o section → answer_text (λ k. rows_text (meta_row_text section) (take k rows)) (answered (λ k. k) r) ≡ meta_text o section n
  meta_told None e = absent_told _ _ r e
  meta_told (Some s) e = entries_told meta_entry_text (entry_of (key_part s) s) rows r ∙ ap (answer_text (rows_text meta_entry_text)) e

  pub builds_told : (section : Option (List ℕ)) → answered (builds_in (bytes_in section) rows) r ≡ question (λ o s. within 2 n (build_ids o s)) o section → answer_text (λ k. rows_text (build_row_text (bytes_in section)) (take k rows)) (answered (λ k. k) r) ≡ builds_text o section n
  builds_told section e = entries_told build_entry_text (entry_in (bytes_in section)) rows r ∙ ap (answer_text (rows_text build_entry_text)) e
