-- What is answered of a section's rows, by its entries.
use Rattle.std.proofs.Common.{◌≡◌, ℕ, ◌-◌, Bool, true, false, cond, leb, List, ◌++◌, map, length, take, Some, None, Ok, Err, Option, Result, sym, refl, ap, ◌∙◌, arith}
use Rattle.std.proofs.lemmas.List.{take_all, take-append-le, length-map}
use Rattle.wire.specs.Faults.{state_fault}
use Rattle.wire.specs.declared.order.ByteOrder.{ByteOrder}
use Rattle.wire.specs.declared.refusal.Fault.{Fault}
use Rattle.wire.specs.declared.refusal.Refusal.{Refusal}
use Rattle.table.specs.Rows.{blanks}
use Rattle.table.specs.declared.row.Row.{Row}
use Rattle.perf_data.specs.Questions.{present, question, mapped, answered}
use Rattle.mappings.specs.Tables.{within, counted, laid_for, bytes_in, with_value}
use Rattle.build_ids.specs.Table.{build_ids}
use Rattle.build_ids.specs.Rows.{entry_in, row_table, builds_in}
use Rattle.build_ids.proofs.Entries.{table-stands}

-- what is answered of a count is answered of what the count stands for
answered-mapped : {V : Type 0} (g : ℕ → V) (used : Result (Option ℕ) Refusal) → answered g used ≡ with_value (mapped g) (answered (λ n. n) used)
answered-mapped g (Ok None) = refl
answered-mapped g (Ok (Some n)) = refl
answered-mapped g (Err e) = refl

pub answered-by : {V : Type 0} (g : ℕ → V) (used : Result (Option ℕ) Refusal) (a : Result (Option ℕ) Fault) → answered (λ n. n) used ≡ a → answered g used ≡ with_value (mapped g) a
answered-by g used a e = answered-mapped g used ∙ ap (with_value (mapped g)) e

module _ (n : ℕ) (o : ByteOrder) where
  -- a table has as many rows as entries
  same_count : (s : List ℕ) (b : Bool) → counted (cond b (Ok (row_table o s)) (Err (state_fault 31 2))) ≡ counted (cond b (Ok (map (entry_in s) (row_table o s))) (Err (state_fault 31 2)))
  same_count s true = ap Ok (sym (length-map (row_table o s) (entry_in s)))
  same_count s false = refl

  entries-within : (s : List ℕ) → cond (leb (length (row_table o s)) n) (Ok (map (entry_in s) (row_table o s))) (Err (state_fault 31 2)) ≡ within 2 n (build_ids o s)
  entries-within s =
      ap (λ k. cond (leb k n) (Ok (map (entry_in s) (row_table o s))) (Err (state_fault 31 2))) (sym (length-map (row_table o s) (entry_in s)))
      ∙ ap (within 2 n) (table-stands o s)

  pub count-is : (section : Option (List ℕ)) → question (λ o s. counted (within 2 n (Ok (row_table o s)))) o section ≡ question (λ o s. counted (within 2 n (build_ids o s))) o section
  count-is None = refl
  count-is (Some s) =
      ap present (same_count s (leb (length (row_table o s)) n) ∙ ap counted (entries-within s))

  rows_by : (s : List ℕ) (b : Bool) → with_value (mapped (builds_in s (cond b (row_table o s ++ blanks (n - length (row_table o s))) (blanks n)))) (present (counted (cond b (Ok (row_table o s)) (Err (state_fault 31 2))))) ≡ present (cond b (Ok (map (entry_in s) (row_table o s))) (Err (state_fault 31 2)))
  rows_by s true =
      let t = row_table o s in
      let all : take (length t) (t ++ blanks (n - length t)) ≡ t = take-append-le (length t) t (blanks (n - length t)) (omega arith) ∙ take_all (length t) t (omega arith) in
      ap (λ rs. Ok (Some (map (entry_in s) rs))) all
  rows_by s false = refl

  entries-of : (section : Option (List ℕ)) → with_value (mapped (builds_in (bytes_in section) (laid_for n (question (λ o s. Ok (row_table o s)) o section)))) (question (λ o s. counted (within 2 n (Ok (row_table o s)))) o section) ≡ question (λ o s. within 2 n (build_ids o s)) o section
  entries-of None = refl
  entries-of (Some s) = rows_by s (leb (length (row_table o s)) n) ∙ ap present (entries-within s)

  -- the used rows stand for the table that the section means
  pub entries_answered : (section : Option (List ℕ)) (used : Result (Option ℕ) Refusal) (rows : List Row) → answered (λ k. k) used ≡ question (λ o s. counted (within 2 n (Ok (row_table o s)))) o section → rows ≡ laid_for n (question (λ o s. Ok (row_table o s)) o section) → answered (builds_in (bytes_in section) rows) used ≡ question (λ o s. within 2 n (build_ids o s)) o section
  entries_answered section used rows p q =
      answered-by (builds_in (bytes_in section) rows) used _ p
      ∙ ap (λ rs. with_value (mapped (builds_in (bytes_in section) rs)) (question (λ o s. counted (within 2 n (Ok (row_table o s)))) o section)) q
      ∙ entries-of section
