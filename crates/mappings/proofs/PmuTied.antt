-- The rows of pmu names point to the names.
use Rattle.std.proofs.Common.{◌≡◌, ℕ, zero, suc, ◌+◌, ◌-◌, List, map, length, take, drop, Some, None, Ok, Err, Option, Result, unwrap_or, sym, refl, ap, ◌∙◌}
use Rattle.std.proofs.lemmas.List.{drop-drop}
use Rattle.wire.specs.Numbers.{number}
use Rattle.wire.specs.declared.order.ByteOrder.{ByteOrder}
use Rattle.wire.specs.declared.refusal.Fault.{Fault}
use Rattle.text.specs.Strings.{Read, header_text}
use Rattle.text.specs.declared.strings.TextFault.{TextFault}
use Rattle.text.specs.declared.strings.TextFault.TheVariants.{ShortLength, PastEnd, IllFormed}
use Rattle.table.specs.Order.{numbers}
use Rattle.table.specs.Rows.{part, entry_of}
use Rattle.table.specs.declared.row.Row.{Row}
use Rattle.mappings.specs.Tables.{table_by, with_value}
use Rattle.mappings.specs.PmuMappings.{past_text, ItemRead, named, numbered, item_at, given_before, and_more, items_in, counted_items, items, name_row, key_of, pmu_rows, pmu_names}
use Rattle.mappings.proofs.Joins.{err_not}
use Rattle.mappings.proofs.Places.{Lies, header_text_lies, last-bytes}
use Rattle.mappings.proofs.Tied.{table_tied}

abbrev pair_of : ℕ → ℕ → List ℕ → ℕ × List ℕ
pair_of key at name = (key, name)

module _ (section : List ℕ) (o : ByteOrder) where
  abbrev shows : Row → ℕ × List ℕ
  shows = entry_of key_of section

  abbrev shown-given : Option Row → Option (ℕ × List ℕ)
  shown-given None = None
  shown-given (Some row) = Some (shows row)

  abbrev shown-item : Result (ItemRead Row) Fault → Result (ItemRead (ℕ × List ℕ)) Fault
  shown-item (Ok i) = Ok (record { given = shown-given i.given; rest = i.rest })
  shown-item (Err f) = Err f

  -- an item's row stands for the item
  name-part : (at : ℕ) (t : List ℕ) (r : Read) → t ≡ drop at section → Lies t r → part section (at + 4) (length r.text) ≡ r.text
  name-part at t r e l = ap (take (length r.text)) (sym (drop-drop 4 at section) ∙ ap (drop 4) (sym e)) ∙ l.text

  named_tied : (key at : ℕ) (t past : List ℕ) (h : Result Read TextFault) → header_text o t ≡ h → t ≡ drop at section → shown-item (named name_row o key at past h) ≡ named pair_of o key at past h
  named_tied key at t past (Ok r) q e =
      ap (λ w. Ok (record { given = Some (key, w); rest = r.rest })) (name-part at t r e (header_text_lies o t r q))
  named_tied key at t past (Err ShortLength) q e = refl
  named_tied key at t past (Err PastEnd) q e = refl
  named_tied key at t past (Err IllFormed) q e = refl

  numbered_tied : (at : ℕ) (t : List ℕ) (n : Option ℕ) → t ≡ drop (at + 4) section → shown-item (numbered name_row o at t n) ≡ numbered pair_of o at t n
  numbered_tied at t None e = refl
  numbered_tied at t (Some key) e = named_tied key (at + 4) t (past_text o t) (header_text o t) refl e

  item_tied : (at : ℕ) (s : List ℕ) → s ≡ drop at section → shown-item (item_at name_row o at s) ≡ item_at pair_of o at s
  item_tied at s e = numbered_tied at (drop 4 s) (number o 4 s) (ap (drop 4) e ∙ drop-drop 4 at section)

  -- what follows an item is a later part of the section
  rest_of : (given : Option Row) (rest : List ℕ) (i : ItemRead Row) → ◌≡◌ {A = Result (ItemRead Row) Fault} (Ok (record { given = given; rest = rest })) (Ok i) → i.rest ≡ rest
  rest_of given rest i e =
      let q : i ≡ record { given = given; rest = rest } = cc in
      ap (λ (x : ItemRead Row). x.rest) q

  named-rest : (key at : ℕ) (t : List ℕ) (h : Result Read TextFault) → header_text o t ≡ h → (i : ItemRead Row) → named name_row o key at (past_text o t) h ≡ Ok i → (k : ℕ) × (i.rest ≡ drop k t)
  named-rest key at t (Ok r) e i q = let l = header_text_lies o t r e in (l.skip, rest_of _ r.rest i q ∙ l.rest)
  named-rest key at t (Err ShortLength) e i q = err_not _ i q
  named-rest key at t (Err PastEnd) e i q = err_not _ i q
  named-rest key at t (Err IllFormed) e i q = (4 + unwrap_or (number o 4 t) 0, rest_of _ (past_text o t) i q ∙ drop-drop (unwrap_or (number o 4 t) 0) 4 t)

  numbered-rest : (at : ℕ) (t : List ℕ) (n : Option ℕ) (i : ItemRead Row) → numbered name_row o at t n ≡ Ok i → (k : ℕ) × (i.rest ≡ drop k t)
  numbered-rest at t None i q = err_not _ i q
  numbered-rest at t (Some key) i q = named-rest key (at + 4) t (header_text o t) refl i q

  item-rest : (at : ℕ) (s : List ℕ) (k : ℕ) → s ≡ drop k section → (i : ItemRead Row) → item_at name_row o at s ≡ Ok i → (j : ℕ) × (i.rest ≡ drop j section)
  item-rest at s k e i q =
      let h = numbered-rest at (drop 4 s) (number o 4 s) i q in
      (k + 4 + h.0, h.1 ∙ ap (λ t. drop h.0 (drop 4 t)) e ∙ ap (drop h.0) (drop-drop 4 k section) ∙ drop-drop h.0 (k + 4) section)

  -- one item, and then those of what follows it
  given_tied : (g : Option Row) (p : Result (List Row) Fault) → with_value (map shows) (given_before g p) ≡ given_before (shown-given g) (with_value (map shows) p)
  given_tied None p = refl
  given_tied (Some row) (Ok rows) = refl
  given_tied (Some row) (Err f) = refl

  more_tied : (i : Result (ItemRead Row) Fault) (more : List ℕ → Result (List Row) Fault) (also : List ℕ → Result (List (ℕ × List ℕ)) Fault) → ((j : ItemRead Row) → i ≡ Ok j → with_value (map shows) (more j.rest) ≡ also j.rest) → with_value (map shows) (and_more i more) ≡ and_more (shown-item i) also
  more_tied (Ok j) more also h = given_tied j.given (more j.rest) ∙ ap (given_before (shown-given j.given)) (h j refl)
  more_tied (Err f) more also h = refl

  items_tied : (n : ℕ) (s : List ℕ) (k : ℕ) → s ≡ drop k section → with_value (map shows) (items_in name_row o (length section) n s) ≡ items_in pair_of o (length section) n s
  unfolding items_in
  items_tied zero s k e = refl
  items_tied (suc n) s k e =
      let at : ℕ = length section - length s in
      more_tied (item_at name_row o at s) (λ t. items_in name_row o (length section) n t) (λ t. items_in pair_of o (length section) n t)
      (λ j q. let r = item-rest at s k e j q in items_tied n j.rest r.0 r.1)
      ∙ ap (λ i. and_more i (λ t. items_in pair_of o (length section) n t)) (item_tied at s (last-bytes section s k e))

  counted_tied : (n : Option ℕ) → with_value (map shows) (counted_items name_row o section n) ≡ counted_items pair_of o section n
  counted_tied None = refl
  counted_tied (Some n) = items_tied n (drop 4 section) 4 refl

  -- The table of the rows stands for the table of the names.
  pub names_tied : with_value (map (entry_of key_of section)) (pmu_rows o section) ≡ pmu_names o section
  names_tied =
      table_tied numbers key_of shows (λ _. refl) (items name_row o section)
      ∙ ap (table_by numbers (λ e. e.0)) (counted_tied (number o 4 section))
