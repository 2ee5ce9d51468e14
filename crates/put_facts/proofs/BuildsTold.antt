-- From the rows of build ids to the fact that a head has of them.
use Rattle.std.proofs.Common.{◌≡◌, ℕ, ◌-◌, Bool, true, false, cond, leb, List, ◌++◌, map, length, take, Some, None, Ok, Err, Option, Result, sym, refl, ap, ◌∙◌, arith}
use Rattle.std.specs.List.{flat_map}
use Rattle.std.proofs.lemmas.List.{take_all, take-append-le, length-map}
use Rattle.wire.specs.Faults.{state_fault}
use Rattle.wire.specs.declared.order.ByteOrder.{ByteOrder}
use Rattle.wire.specs.declared.refusal.Fault.{Fault}
use Rattle.wire.specs.declared.refusal.Refusal.{Refusal}
use Rattle.table.specs.Rows.{blanks}
use Rattle.table.specs.declared.row.Row.{Row}
use Rattle.perf_data.specs.Questions.{present, question, mapped, answered}
use Rattle.mappings.specs.Tables.{within, counted, laid_for, bytes_in, with_value}
use Rattle.build_ids.specs.Table.{build_ids}
use Rattle.build_ids.specs.Rows.{entry_in, row_table}
use Rattle.build_ids.proofs.Answered.{answered-by, count-is}
use Rattle.build_ids.proofs.Entries.{table-stands}
use Rattle.facts.specs.Facts.{fact_of, builds, write}
use Rattle.put_facts.specs.Builds.{row_bytes}
use Rattle.put_facts.specs.Writes.{in_bytes}
use Rattle.put_facts.proofs.BuildRows.{rows_written}

module _ (m : ℕ) (o : ByteOrder) (s : List ℕ) where
  -- the rows are enough, or they are too few
  enough : (b : Bool) → with_value (mapped (λ n. flat_map (row_bytes s) (take n (cond b (row_table o s ++ blanks (m - length (row_table o s))) (blanks m))))) (present (counted (cond b (Ok (row_table o s)) (Err (state_fault 31 2))))) ≡ in_bytes (present (fact_of builds (cond b (Ok (map (entry_in s) (row_table o s))) (Err (state_fault 31 2)))))
  unfolding write
  enough true =
      let t = row_table o s in
      let all : take (length t) (t ++ blanks (m - length t)) ≡ t = take-append-le (length t) t (blanks (m - length t)) (omega arith) ∙ take_all (length t) t (omega arith) in
      ap (λ rs. Ok (Some (flat_map (row_bytes s) rs))) all ∙ ap (λ b. Ok (Some b)) (rows_written o s)
  enough false = refl

  abbrev bytes_of_used : List Row → Result (Option ℕ) Fault → Result (Option (List ℕ)) Fault
  bytes_of_used rows = with_value (mapped (λ n. flat_map (row_bytes s) (take n rows)))

  of_section : bytes_of_used (laid_for m (Ok (Some (row_table o s)))) (question (λ o s. counted (within 2 m (build_ids o s))) o (Some s)) ≡ in_bytes (question (λ o s. fact_of builds (within 2 m (build_ids o s))) o (Some s))
  of_section =
      let t = row_table o s in
      ap (bytes_of_used (laid_for m (Ok (Some t)))) (sym (count-is m o (Some s)))
      ∙ (enough (leb (length t) m)
      ∙ (ap (λ n. in_bytes (present (fact_of builds (cond (leb n m) (Ok (map (entry_in s) t)) (Err (state_fault 31 2)))))) (sym (length-map t (entry_in s)))
      ∙ ap (λ r. in_bytes (present (fact_of builds (within 2 m r)))) (table-stands o s)))

of_answer : (m : ℕ) (o : ByteOrder) (section : Option (List ℕ)) → bytes_of_used m o (bytes_in section) (laid_for m (question (λ o s. Ok (row_table o s)) o section)) (question (λ o s. counted (within 2 m (build_ids o s))) o section) ≡ in_bytes (question (λ o s. fact_of builds (within 2 m (build_ids o s))) o section)
of_answer m o None = refl
of_answer m o (Some s) = of_section m o s

pub builds_tell : (m : ℕ) (o : ByteOrder) (section : Option (List ℕ)) (used : Result (Option ℕ) Refusal) (rows : List Row) → answered (λ n. n) used ≡ question (λ o s. counted (within 2 m (build_ids o s))) o section → rows ≡ laid_for m (question (λ o s. Ok (row_table o s)) o section) → answered (λ n. flat_map (row_bytes (bytes_in section)) (take n rows)) used ≡ in_bytes (question (λ o s. fact_of builds (within 2 m (build_ids o s))) o section)
builds_tell m o section used rows p q =
    answered-by (λ n. flat_map (row_bytes (bytes_in section)) (take n rows)) used _ p
    ∙ (ap (λ rs. bytes_of_used m o (bytes_in section) rs (question (λ o s. counted (within 2 m (build_ids o s))) o section)) q
    ∙ of_answer m o section)
