-- The items of a section of pmu names, one after the other.
use Rattle.std.proofs.Common.{◌≡◌, ℕ, zero, suc, ◌+◌, ◌-◌, ◌<◌, ◌≤◌, List, [], ◌++◌, length, drop, Some, None, Ok, Err, Option, Result, unwrap_or, sym, refl, ap, ◌∙◌, append-nil, arith}
use Rattle.std.specs.Option.{option_to_list}
use Rattle.std.proofs.lemmas.List.{length-drop}
use Rattle.wire.specs.Numbers.{number}
use Rattle.wire.specs.declared.order.ByteOrder.{ByteOrder}
use Rattle.wire.specs.declared.refusal.Fault.{Fault}
use Rattle.text.specs.Strings.{Read, header_text}
use Rattle.text.specs.declared.strings.TextFault.{TextFault}
use Rattle.text.specs.declared.strings.TextFault.TheVariants.{ShortLength, PastEnd, IllFormed}
use Rattle.text.proofs.Headers.{header_text_told}
use Rattle.mappings.specs.PmuMappings.{past_text, ItemRead, named, numbered, item_at, given_before, and_more, items_in}
use Rattle.mappings.proofs.Joins.{joined, joined_more, err_not}

module _ {X : Type 0} (make : ℕ → ℕ → List ℕ → X) (o : ByteOrder) (total : ℕ) where
  -- one item more, by what it is read as
  pub items-next : (n : ℕ) (s : List ℕ) (i : Result (ItemRead X) Fault) → 0 < n → item_at make o (total - length s) s ≡ i → items_in make o total n s ≡ and_more i (λ t. items_in make o total (n - 1) t)
  unfolding items_in
  items-next zero s i l e = absurd (omega arith)
  items-next (suc n) s i l e =
      let q : suc n - 1 ≡ n = omega arith in
      ap (λ x. and_more x (λ t. items_in make o total n t)) e ∙ ap (λ k. and_more i (λ t. items_in make o total k t)) (sym q)

  pub items-none : (n : ℕ) (s : List ℕ) → n ≡ 0 → items_in make o total n s ≡ Ok []
  unfolding items_in
  items-none n s e = rw e refl

-- what an item gives comes next, if it gives something
pub given-next : {X : Type 0} (so_far : List X) (g : Option X) (more : Result (List X) Fault) → joined so_far (given_before g more) ≡ joined (so_far ++ option_to_list g) more
given-next so_far None more = ap (λ xs. joined xs more) (sym (append-nil so_far))
given-next so_far (Some x) more = joined_more so_far x more

-- what follows an item is no longer than what it was read from
module _ {X : Type 0} (make : ℕ → ℕ → List ℕ → X) (o : ByteOrder) where
  rest_of : (given : Option X) (rest : List ℕ) (i : ItemRead X) → ◌≡◌ {A = Result (ItemRead X) Fault} (Ok (record { given = given; rest = rest })) (Ok i) → rest ≡ i.rest
  rest_of given rest i e =
      let q : record { given = given; rest = rest } ≡ i = cc in
      ap (λ (x : ItemRead X). x.rest) q

  named_shorter : (key at : ℕ) (t : List ℕ) (h : Result Read TextFault) → header_text o t ≡ h → (i : ItemRead X) → named make o key at (past_text o t) h ≡ Ok i → length i.rest ≤ length t
  named_shorter key at t (Ok r) e i q = omega (arith, (header_text_told o t r e).short, ap length (rest_of _ r.rest i q))
  named_shorter key at t (Err ShortLength) e i q = err_not _ i q
  named_shorter key at t (Err PastEnd) e i q = err_not _ i q
  named_shorter key at t (Err IllFormed) e i q =
      omega (arith, ap length (rest_of _ (past_text o t) i q), length-drop (unwrap_or (number o 4 t) 0) (drop 4 t), length-drop 4 t)

  numbered_shorter : (at : ℕ) (t : List ℕ) (n : Option ℕ) (i : ItemRead X) → numbered make o at t n ≡ Ok i → length i.rest ≤ length t
  numbered_shorter at t None i q = err_not _ i q
  numbered_shorter at t (Some key) i q = named_shorter key (at + 4) t (header_text o t) refl i q

  pub item_shorter : (at : ℕ) (s : List ℕ) (i : ItemRead X) → item_at make o at s ≡ Ok i → length i.rest ≤ length s
  item_shorter at s i q = omega (arith, numbered_shorter at (drop 4 s) (number o 4 s) i q, length-drop 4 s)
