-- The rows of build ids: their numbers are the least modes that give their keys.
use Rattle.std.proofs.Common.{◌≡◌, ℕ, zero, suc, ◌+◌, ◌-◌, ◌%◌, ◌<◌, ◌≤◌, List, ◌∷◌, map, length, drop, IfSome, Some, None, Option, unwrap_or, sym, refl, ap, ◌∙◌, subst, arith}
use Rattle.std.specs.List.{flat_map}
use Rattle.std.specs.Option.{option_map}
use Rattle.std.proofs.lemmas.List.{length-drop, drop-drop}
use Rattle.std.proofs.lemmas.List.Folds.{flat_map-map}
use Rattle.wire.specs.declared.order.ByteOrder.{ByteOrder}
use Rattle.table.specs.Rows.{key_part, value_part}
use Rattle.table.specs.Table.{tabled}
use Rattle.table.specs.declared.row.Row.{Row}
use Rattle.table.proofs.Carried.{carries}
use Rattle.dso_key.specs.Detect.{detect}
use Rattle.dso_key.specs.Keys.{Key, kernel}
use Rattle.dso_key.specs.Least.{least_of, least_mode}
use Rattle.dso_key.specs.Modes.{mode_of}
use Rattle.dso_key.specs.Order.{keys}
use Rattle.dso_key.specs.declared.cpu_mode.CpuMode.{CpuMode}
use Rattle.dso_key.proofs.Leasts.{least_again}
use Rattle.build_ids.specs.Events.{Event, event, records}
use Rattle.build_ids.specs.Table.{Entry, keep}
use Rattle.build_ids.specs.Rows.{row_key, entry_in, row_with, row_of, rows_from, row_table}
use Rattle.build_ids.proofs.Reading.{records-end, records-more, event-size}
use Rattle.build_ids.proofs.Parts.{path-part}
use Rattle.facts.specs.Written.{mode_for, build_bytes}
use Rattle.put_facts.specs.Builds.{record_bytes, row_bytes}

-- the least mode for a key is that for the key that it gives itself
least-of : (path : List ℕ) (m : ℕ) (d : Option Key) → least_of path d ≡ Some m → detect path (mode_of m) ≡ d → m ≡ mode_for (unwrap_or (detect path (mode_of m)) kernel) path
least-of path m None h q = let z : ◌≡◌ {A = ℕ} 0 1 = cc in absurd (omega arith)
least-of path m (Some k) h q =
    sym (ap (λ d. mode_for (unwrap_or d kernel) path) q ∙ ap (λ o. unwrap_or o 0) h)

least_is : (path : List ℕ) (mode : CpuMode) (m : ℕ) → least_mode path mode ≡ Some m → m ≡ mode_for (unwrap_or (detect path (mode_of m)) kernel) path
least_is path mode m h =
    least-of path m (detect path mode) h
    (subst (λ x. IfSome x (λ m. (m < 6) × (detect path (mode_of m) ≡ detect path mode))) h (least_again path mode)).1

module _ (o : ByteOrder) (s : List ℕ) where
  -- the row of a record
  row_by : (at : ℕ) (e : Event) (m : ℕ) → event o (drop at s) ≡ Some e → least_mode e.path (mode_of (e.misc % 8)) ≡ Some m → row_bytes s (row_with at e m) ≡ build_bytes (entry_in s (row_with at e m))
  row_by at e m h l =
      let row = row_with at e m in
      let p = path-part o s at e h in
      let n : m ≡ mode_for (row_key s row) (key_part s row) =
      least_is e.path (mode_of (e.misc % 8)) m l ∙ ap (λ x. mode_for (unwrap_or (detect x (mode_of m)) kernel) x) (sym p) in
      ap (λ k. record_bytes k (key_part s row) (value_part s row)) n

  row-of : (at : ℕ) (e : Event) → event o (drop at s) ≡ Some e → (l : Option ℕ) → least_mode e.path (mode_of (e.misc % 8)) ≡ l → (r : Row) → option_map (row_with at e) l ≡ Some r → row_bytes s r ≡ build_bytes (entry_in s r)
  row-of at e h None l r q = let z : ◌≡◌ {A = ℕ} 0 1 = cc in absurd (omega arith)
  row-of at e h (Some m) l r q =
      let same : row_with at e m ≡ r = cc in
      subst (λ x. row_bytes s x ≡ build_bytes (entry_in s x)) same (row_by at e m h l)

  -- what a row stands for, with its bytes, and with those of the entry
  abbrev with_own : Row → Entry × List ℕ
  with_own row = (entry_in s row, row_bytes s row)

  abbrev with_due : Row → Entry × List ℕ
  with_due row = (entry_in s row, build_bytes (entry_in s row))

  kept : (x : Option Row) → ((r : Row) → x ≡ Some r → row_bytes s r ≡ build_bytes (entry_in s r)) → (rs : List Row) → map with_own rs ≡ map with_due rs → map with_own (keep x rs) ≡ map with_due (keep x rs)
  kept None h rs e = e
  kept (Some r) h rs e = λ i. (entry_in s r, h r refl i) ∷ e i

  all_by : (n at : ℕ) → length s - at ≤ n → (x : Option Event) → event o (drop at s) ≡ x → ((at : ℕ) → length s - at < n → map with_own (rows_from at (records o (drop at s))) ≡ map with_due (rows_from at (records o (drop at s)))) → map with_own (rows_from at (records o (drop at s))) ≡ map with_due (rows_from at (records o (drop at s)))
  all_by n at l None h more =
      let none = records-end o (drop at s) h in
      ap (λ es. map with_own (rows_from at es)) none ∙ sym (ap (λ es. map with_due (rows_from at es)) none)
  all_by n at l (Some e) h more =
      let z = event-size o (drop at s) e h in
      let is : records o (drop at s) ≡ e ∷ records o (drop (at + e.size) s) =
      records-more o (drop at s) e h ∙ ap (λ t. e ∷ records o t) (drop-drop e.size at s) in
      let less : length s - (at + e.size) < n = omega (arith, z.0, z.1, length-drop at s) in
      let one = row-of at e h (least_mode e.path (mode_of (e.misc % 8))) refl in
      ap (λ es. map with_own (rows_from at es)) is
      ∙ (kept (row_of at e) one (rows_from (at + e.size) (records o (drop (at + e.size) s))) (more (at + e.size) less)
      ∙ sym (ap (λ es. map with_due (rows_from at es)) is))

  all_within : (n at : ℕ) → length s - at < n → map with_own (rows_from at (records o (drop at s))) ≡ map with_due (rows_from at (records o (drop at s)))
  all_within zero at l = absurd (omega arith)
  all_within (suc n) at l = all_by n at (omega arith) (event o (drop at s)) refl (λ a k. all_within n a k)

  table_agrees : map with_own (row_table o s) ≡ map with_due (row_table o s)
  unfolding row_table
  table_agrees =
      carries keys (row_key s) (λ p. p.0.0) with_own (λ r. refl) (rows_from 0 (records o s))
      ∙ (ap (tabled keys (λ p. p.0.0)) (all_within (suc (length s)) 0 (omega arith))
      ∙ sym (carries keys (row_key s) (λ p. p.0.0) with_due (λ r. refl) (rows_from 0 (records o s))))

  -- the table's rows are written as the entries that they stand for
  pub rows_written : flat_map (row_bytes s) (row_table o s) ≡ flat_map build_bytes (map (entry_in s) (row_table o s))
  rows_written =
      sym (flat_map-map (λ p. p.1) with_own (row_table o s))
      ∙ (ap (flat_map (λ p. p.1)) table_agrees
      ∙ (flat_map-map (λ p. p.1) with_due (row_table o s) ∙ sym (flat_map-map build_bytes (entry_in s) (row_table o s))))
