-- What the rows of a section stand for are its entries.
use Rattle.std.proofs.Common.{◌≡◌, ℕ, zero, suc, ◌+◌, ◌-◌, ◌%◌, ◌<◌, ◌≤◌, List, ◌∷◌, map, length, drop, is_some, IfSome, Some, None, Ok, Option, unwrap_or, sym, refl, ap, ◌∙◌, true≢false, arith}
use Rattle.std.specs.Option.{option_map}
use Rattle.std.proofs.lemmas.List.{length-drop, drop-drop}
use Rattle.wire.specs.declared.order.ByteOrder.{ByteOrder}
use Rattle.table.specs.Rows.{key_part}
use Rattle.table.specs.Table.{tabled}
use Rattle.table.proofs.Carried.{carries}
use Rattle.dso_key.specs.Detect.{detect}
use Rattle.dso_key.specs.Keys.{Key, kernel}
use Rattle.dso_key.specs.Least.{least_mode}
use Rattle.dso_key.specs.Modes.{mode_of}
use Rattle.dso_key.specs.Order.{keys}
use Rattle.dso_key.proofs.Leasts.{least_some, least_again}
use Rattle.build_ids.specs.Events.{Event, event, records}
use Rattle.build_ids.specs.Table.{keep, key_in, entry_of, entries_of, build_ids}
use Rattle.build_ids.specs.Rows.{row_key, entry_in, row_with, row_of, rows_from, row_table}
use Rattle.build_ids.proofs.Reading.{records-end, records-more, event-size}
use Rattle.build_ids.proofs.Parts.{path-part, id-part}

-- a row and its record
module _ (o : ByteOrder) (s : List ℕ) (at : ℕ) (e : Event) (h : event o (drop at s) ≡ Some e) where
  the_entry : (m : ℕ) (k : Key) → detect e.path (mode_of m) ≡ Some k → entry_in s (row_with at e m) ≡ (k, (e.path, e.id))
  the_entry m k g =
      let p = path-part o s at e h in
      let q : detect (key_part s (row_with at e m)) (mode_of m) ≡ Some k = ap (λ x. detect x (mode_of m)) p ∙ g in
      λ i. (unwrap_or (q i) kernel, (p i, id-part o s at e h i))

  by_key : (l : Option ℕ) (d : Option Key) → is_some l ≡ is_some d → IfSome l (λ m. (m < 6) × (detect e.path (mode_of m) ≡ d)) → option_map (entry_in s) (option_map (row_with at e) l) ≡ option_map (λ k. (k, (e.path, e.id))) d
  by_key None None p g = refl
  by_key None (Some k) p g = absurd (true≢false (sym p))
  by_key (Some m) None p g = absurd (true≢false p)
  by_key (Some m) (Some k) p g = ap Some (the_entry m k g.1)

  one : option_map (entry_in s) (row_of at e) ≡ entry_of e
  one =
      let mode = mode_of (e.misc % 8) in
      by_key (least_mode e.path mode) (key_in e) (least_some e.path mode) (least_again e.path mode)

map-keep : {X Y : Type 0} (f : X → Y) (x : Option X) (xs : List X) → map f (keep x xs) ≡ keep (option_map f x) (map f xs)
map-keep f None xs = refl
map-keep f (Some x) xs = refl

module _ (o : ByteOrder) (s : List ℕ) where
  all_by : (n at : ℕ) → length s - at ≤ n → (x : Option Event) → event o (drop at s) ≡ x → ((at : ℕ) → length s - at < n → map (entry_in s) (rows_from at (records o (drop at s))) ≡ entries_of (records o (drop at s))) → map (entry_in s) (rows_from at (records o (drop at s))) ≡ entries_of (records o (drop at s))
  all_by n at l None h more =
      let none = records-end o (drop at s) h in
      ap (λ es. map (entry_in s) (rows_from at es)) none ∙ sym (ap entries_of none)
  all_by n at l (Some e) h more =
      let z = event-size o (drop at s) e h in
      let is : records o (drop at s) ≡ e ∷ records o (drop (at + e.size) s) =
      records-more o (drop at s) e h ∙ ap (λ t. e ∷ records o t) (drop-drop e.size at s) in
      let less : length s - (at + e.size) < n = omega (arith, z.0, z.1, length-drop at s) in
      ap (λ es. map (entry_in s) (rows_from at es)) is
      ∙ (map-keep (entry_in s) (row_of at e) (rows_from (at + e.size) (records o (drop (at + e.size) s)))
      ∙ ((λ i. keep (one o s at e h i) (more (at + e.size) less i)) ∙ sym (ap entries_of is)))

  all_within : (n at : ℕ) → length s - at < n → map (entry_in s) (rows_from at (records o (drop at s))) ≡ entries_of (records o (drop at s))
  all_within zero at l = absurd (omega arith)
  all_within (suc n) at l = all_by n at (omega arith) (event o (drop at s)) refl (λ a k. all_within n a k)

  rows_stand : map (entry_in s) (rows_from 0 (records o s)) ≡ entries_of (records o s)
  rows_stand = all_within (suc (length s)) 0 (omega arith)

  pub table-stands : Ok (map (entry_in s) (row_table o s)) ≡ build_ids o s
  unfolding row_table
  table-stands =
      ap Ok (carries keys (row_key s) (λ e. e.0) (entry_in s) (λ r. refl) (rows_from 0 (records o s))
      ∙ ap (λ es. tabled keys (λ e. e.0) es) rows_stand)
