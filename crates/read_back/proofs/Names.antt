-- The table of PMU names is read again.
use Rattle.std.proofs.Common.{◌≡◌, ℕ, zero, suc, ◌+◌, ◌-◌, ◌^◌, ◌<◌, ◌≤◌, List, [], ◌∷◌, ◌++◌, length, drop, Some, None, Ok, Err, Option, Result, refl, ap, ◌∙◌, subst, arith}
use Rattle.std.specs.List.{flat_map, AllByRecursion as All}
use Rattle.std.proofs.lemmas.List.{append_assoc, length-append, length-drop}
use Rattle.wire.specs.Numbers.{number}
use Rattle.wire.specs.declared.order.ByteOrder.{ByteOrder}
use Rattle.wire.specs.declared.order.ByteOrder.TheVariants.{Little}
use Rattle.wire.specs.declared.refusal.Fault.{Fault}
use Rattle.wire.proofs.Digits.{number-again, number_below}
use Rattle.text.specs.Strings.{Read, header_text}
use Rattle.text.specs.declared.strings.TextFault.{TextFault}
use Rattle.text.specs.declared.strings.TextFault.TheVariants.{ShortLength, PastEnd, IllFormed}
use Rattle.text.proofs.Headers.{header_text_told}
use Rattle.table.specs.Order.{numbers}
use Rattle.table.specs.Table.{tabled}
use Rattle.mappings.specs.PmuMappings.{cut, past_text, ItemRead, given_before, and_more, named, numbered, item_at, items_in, counted_items, pmu_items, pmu_names}
use Rattle.mappings.specs.Tables.{before}
use Rattle.mappings.proofs.Joins.{err_not}
use Rattle.mappings.proofs.PmuItems.{item_shorter}
use Rattle.build_ids.specs.Table.{keep}
use Rattle.facts.specs.Laws.{ReadsBack}
use Rattle.facts.specs.Written.{u32, text_bytes, counted_bytes, name_bytes}
use Rattle.read_back.proofs.Counted.{Listed, Fines, counted_law}
use Rattle.read_back.proofs.Law.{Law, formed_ok}
use Rattle.read_back.proofs.Numbers.{past_number, length_past}
use Rattle.read_back.proofs.Tabled.{all_tabled, tabled_fewer, tabled_lighter, tabled_back}
use Rattle.read_back.proofs.Texts.{Fine, text_fine, text-again, length-text}

abbrev Name : Type 0
Name = ℕ × List ℕ

abbrev named_by : ℕ → ℕ → List ℕ → Name
named_by key at name = (key, name)

-- ---- one item

-- A number of 32 bits, and a name that a header text can hold.
pub record FineName (e : Name) : Type 0 where
  pub number : e.0 < 2 ^ 32
  pub name : Fine e.1

length-name : (e : Name) → length (name_bytes e) ≡ 8 + length e.1
length-name e = omega (arith, length_past 4 e.0 (text_bytes e.1), length-text e.1)

-- What an item that was read tells.
abbrev Gave : List ℕ → Option Name → List ℕ → Type 0
Gave s None rest = length rest ≤ length s
Gave s (Some e) rest = (length s ≤ 16777216 → FineName e) × (length (name_bytes e) + length rest ≤ length s)

abbrev GaveOf : List ℕ → ItemRead Name → Type 0
GaveOf s i = Gave s i.given i.rest

module _ (o : ByteOrder) (at : ℕ) (s : List ℕ) (i : ItemRead Name) (q : item_at named_by o at s ≡ Ok i) where
  gave_named : (key : ℕ) → number o 4 s ≡ Some key → (h : Result Read TextFault) → header_text o (drop 4 s) ≡ h → named named_by o key (at + 4) (past_text o (drop 4 s)) h ≡ Ok i → GaveOf s i
  gave_named key k (Ok r) e p =
      let is : record { given = Some (key, r.text); rest = r.rest } ≡ i = cc in
      let n = number_below o 4 s key k in
      let d = length-drop 4 s in
      subst (GaveOf s) is (
        λ b. record { number = n.0; name = text_fine o (drop 4 s) r (omega arith) e },
        omega (arith, (header_text_told o (drop 4 s) r e).short, length-name (key, r.text), n.1),
      )
  gave_named key k (Err ShortLength) e p = err_not _ i p
  gave_named key k (Err PastEnd) e p = err_not _ i p
  gave_named key k (Err IllFormed) e p =
      let is : record { given = None; rest = past_text o (drop 4 s) } ≡ i = cc in
      subst (GaveOf s) is
      (let short = item_shorter named_by o at s i q in omega (arith, ap (λ (x : ItemRead Name). length x.rest) is))

  gave_numbered : (n : Option ℕ) → number o 4 s ≡ n → numbered named_by o at (drop 4 s) n ≡ Ok i → GaveOf s i
  gave_numbered None k p = err_not _ i p
  gave_numbered (Some key) k p = gave_named key k (header_text o (drop 4 s)) refl p

  gave : GaveOf s i
  gave = gave_numbered (number o 4 s) refl q

item-again : (at : ℕ) (e : Name) (t : List ℕ) → FineName e → item_at named_by Little at (name_bytes e ++ t) ≡ Ok (record { given = Some e; rest = t })
item-again at e t f =
    let more = text_bytes e.1 ++ t in
    ap (item_at named_by Little at) (append_assoc (u32 e.0) (text_bytes e.1) t)
    ∙ ap (numbered named_by Little at (drop 4 (u32 e.0 ++ more))) (number-again 4 e.0 more f.number)
    ∙ ap (λ x. named named_by Little e.0 (at + 4) (past_text Little x) (header_text Little x)) (past_number 4 e.0 more)
    ∙ ap (named named_by Little e.0 (at + 4) (past_text Little more)) (text-again e.1 t f.name)

-- ---- so many items

before_ok : (g : Option Name) (r : Result (List Name) Fault) (vs : List Name) → given_before g r ≡ Ok vs → (ws : List Name) × (r ≡ Ok ws) × (keep g ws ≡ vs)
before_ok None r vs e = (vs, e, refl)
before_ok (Some x) r vs e = formed_ok (before x) (λ ws. x ∷ ws) (λ f. f) (λ ws. refl) (λ f. refl) r vs e

more_ok : (r : Result (ItemRead Name) Fault) (more : List ℕ → Result (List Name) Fault) (vs : List Name) → and_more r more ≡ Ok vs → (i : ItemRead Name) × (ws : List Name) × (r ≡ Ok i) × (more i.rest ≡ Ok ws) × (keep i.given ws ≡ vs)
more_ok (Ok i) more vs e = let (ws, p, q) = before_ok i.given (more i.rest) vs e in (i, ws, refl, p, q)
more_ok (Err f) more vs e = err_not f vs e

abbrev Told : ℕ → List ℕ → List Name → Type 0
Told = Listed name_bytes FineName

listed_by : (n : ℕ) (s : List ℕ) (g : Option Name) (rest : List ℕ) (ws : List Name) → Gave s g rest → Told n rest ws → Told (suc n) s (keep g ws)
listed_by n s None rest ws h l =
    record { fine = λ b. l.fine (omega arith); count = omega (arith, l.count); short = omega (arith, l.short) }
listed_by n s (Some e) rest ws h l =
    let k = h.1 in
    record {
      fine = λ b. (h.0 b, l.fine (omega arith));
      count = omega (arith, l.count);
      short = omega (arith, l.short, length-append (name_bytes e) (flat_map name_bytes ws));
    }

module _ (o : ByteOrder) (total : ℕ) where
  listed : (n : ℕ) (s : List ℕ) (vs : List Name) → items_in named_by o total n s ≡ Ok vs → Told n s vs
  unfolding items_in
  listed zero s vs e =
      let q : [] ≡ vs = cc in
      subst (Told zero s) q (record { fine = λ b. tt; count = omega arith; short = omega arith })
  listed (suc n) s vs e =
      let (i, ws, p, m, q) = more_ok (item_at named_by o (total - length s) s) (λ t. items_in named_by o total n t) vs e in
      subst (Told (suc n) s) q (listed_by n s i.given i.rest ws (gave o (total - length s) s i p) (listed n i.rest ws m))

items-again : (total : ℕ) (vs : List Name) → All FineName vs → items_in named_by Little total (length vs) (flat_map name_bytes vs) ≡ Ok vs
unfolding items_in
items-again total [] f = refl
items-again total (v ∷ vs) f =
    ap (λ x. and_more x (λ t. items_in named_by Little total (length vs) t)) (item-again (total - length (flat_map name_bytes (v ∷ vs))) v (flat_map name_bytes vs) f.0)
    ∙ ap (before v) (items-again total vs f.1)

-- ---- the items of a section, and their table

items_law : Law pmu_items (counted_bytes name_bytes) (Fines FineName)
items_law =
    counted_law (items_in named_by) (counted_items named_by) (cut 0) (λ o s. refl) (λ o s n. refl) name_bytes FineName listed items-again

abbrev key : Name → ℕ
key e = e.0

names-keep : (vs : List Name) → Fines FineName vs → Fines FineName (tabled numbers key vs)
names-keep vs f = (all_tabled numbers key FineName vs f.0, omega (arith, f.1, tabled_fewer numbers key vs))

names_lighter : (vs : List Name) → length (counted_bytes name_bytes (tabled numbers key vs)) ≤ length (counted_bytes name_bytes vs)
names_lighter vs =
    let ts = tabled numbers key vs in
    omega (arith, tabled_lighter numbers key name_bytes vs, length_past 4 (length ts) (flat_map name_bytes ts), length_past 4 (length vs) (flat_map name_bytes vs))

pub names_back : ReadsBack pmu_names (counted_bytes name_bytes)
names_back = tabled_back numbers key pmu_items (counted_bytes name_bytes) (Fines FineName) items_law names-keep names_lighter
