-- Header texts, read one after the other.
use Rattle.std.proofs.Common.{◌≡◌, ℕ, zero, suc, ◌-◌, ◌<◌, ◌≤◌, IsErrAnd, Bool, true, false, cond, ltb, List, [], ◌∷◌, length, take, drop, Some, None, Ok, Err, Option, Result, sym, refl, ap, ◌∙◌, arith}
use Rattle.std.specs.Borrow.{Bor}
use Rattle.std.specs.Result.{MatchResult, result_ok}
use Rattle.std.proofs.lemmas.List.{length-drop}
use Rattle.wire.specs.Faults.{fault_of}
use Rattle.wire.specs.Numbers.{number}
use Rattle.wire.specs.declared.order.ByteOrder.{ByteOrder}
use Rattle.wire.specs.declared.refusal.Fault.{Fault}
use Rattle.wire.specs.declared.refusal.Refusal.{Refusal}
use Rattle.text.specs.Pieces.{well_formed}
use Rattle.text.specs.Strings.{Read, before_nul, text_of_length, header_text, read_of}
use Rattle.text.specs.declared.strings.TextFault.{TextFault}
use Rattle.text.specs.declared.strings.TextFault.TheVariants.{PastEnd, IllFormed}
use Rattle.perf_data.specs.Texts.{text_fault, before, and_more, texts_in, while_read, readable, first_fault, fault_in}

err_not : {X V E : Type 0} (e : E) (v : V) → ◌≡◌ {A = Result V E} (Err e) (Ok v) → X
err_not e v h = let z : ◌≡◌ {A = ℕ} 0 1 = cc in absurd (omega arith)

-- what a text is read as, from what the `ok` of its reading is
pub read_ok : (r : Result (Bor (List ℕ) × Bor (List ℕ)) TextFault) (t : Bor (List ℕ) × Bor (List ℕ)) → Some t ≡ result_ok r → read_of r ≡ Ok (record { text = t.0.now; rest = t.1.now })
read_ok (Ok u) t h = let e : t ≡ u = cc in ap (λ (v : Bor (List ℕ) × Bor (List ℕ)). Ok (record { text = v.0.now; rest = v.1.now })) (sym e)
read_ok (Err e) t h = cc

pub read_fault : (r : Result (Bor (List ℕ) × Bor (List ℕ)) TextFault) → None ≡ result_ok r → (e : TextFault) × (read_of r ≡ Err e)
read_fault (Ok u) h = cc
read_fault (Err e) h = (e, refl)

-- the same from what `map_err` says of it
pub matched_ok : (r : Result (Bor (List ℕ) × Bor (List ℕ)) TextFault) (P : Bor (List ℕ) × Bor (List ℕ) → Type 0) (Q : TextFault → Type 0) → MatchResult r P Q → ((e : TextFault) → Q e → ⊥) → (t : Bor (List ℕ) × Bor (List ℕ)) → ((u : Bor (List ℕ) × Bor (List ℕ)) → P u → t ≡ u) → read_of r ≡ Ok (record { text = t.0.now; rest = t.1.now })
matched_ok (Ok u) P Q h q t p = ap (λ (v : Bor (List ℕ) × Bor (List ℕ)). Ok (record { text = v.0.now; rest = v.1.now })) (sym (p u h))
matched_ok (Err e) P Q h q t p = absurd (q e h)

pub matched_fault : (r : Result (Bor (List ℕ) × Bor (List ℕ)) TextFault) (P : Bor (List ℕ) × Bor (List ℕ) → Type 0) (Q : TextFault → Type 0) → MatchResult r P Q → ((u : Bor (List ℕ) × Bor (List ℕ)) → P u → ⊥) → (e : TextFault) × (read_of r ≡ Err e) × Q e
matched_fault (Ok u) P Q h p = absurd (p u h)
matched_fault (Err e) P Q h p = (e, refl, h)

-- the fault of a refusal that is handed on
pub handed_on : (r : Result (Unit {0}) Refusal) (e : Refusal) → IsErrAnd r (λ y. y ≡ e) → fault_in r ≡ Some (fault_of e)
handed_on (Ok v) e h = absurd h
handed_on (Err y) e h = ap (λ z. Some (fault_of z)) h

-- what follows a text is no longer than what it was read from
shorter_by : (b c : Bool) (text t : List ℕ) (len : ℕ) (r : Read) → cond b (Err PastEnd) (cond c (Ok (record { text = text; rest = drop len t })) (Err IllFormed)) ≡ Ok r → length r.rest ≤ length t
shorter_by true c text t len r h = err_not PastEnd r h
shorter_by false false text t len r h = err_not IllFormed r h
shorter_by false true text t len r h =
    let e : record { text = text; rest = drop len t } ≡ r = cc in
    let q : drop len t ≡ r.rest = ap (λ (x : Read). x.rest) e in
    omega (arith, ap length q, length-drop len t)

shorter_of : (x : Option ℕ) (t : List ℕ) (r : Read) → text_of_length x t ≡ Ok r → length r.rest ≤ length t
shorter_of None t r h = err_not _ r h
shorter_of (Some len) t r h = shorter_by (ltb (length t) len) (well_formed (before_nul (take len t))) (before_nul (take len t)) t len r h

pub rest_shorter : (o : ByteOrder) (s : List ℕ) (r : Read) → header_text o s ≡ Ok r → length r.rest ≤ length s
rest_shorter o s r h = omega (arith, shorter_of (number o 4 s) (drop 4 s) r h, length-drop 4 s)

-- the texts of a view
pub readable-none : (o : ByteOrder) (n : ℕ) (s : List ℕ) → n ≡ 0 → readable o n s ≡ []
unfolding readable
readable-none o n s e = rw e refl

pub readable-more : (o : ByteOrder) (n : ℕ) (s : List ℕ) (r : Read) → 0 < n → header_text o s ≡ Ok r → readable o n s ≡ r.text ∷ readable o (n - 1) r.rest
unfolding readable
readable-more o zero s r l e = absurd (omega arith)
readable-more o (suc n) s r l e =
    let q : suc n - 1 ≡ n = omega arith in
    ap (λ h. while_read h (λ t. readable o n t)) e ∙ ap (λ k. r.text ∷ readable o k r.rest) (sym q)

pub readable_stop : (o : ByteOrder) (n : ℕ) (s : List ℕ) (e : TextFault) → header_text o s ≡ Err e → readable o n s ≡ []
unfolding readable
readable_stop o zero s e h = refl
readable_stop o (suc n) s e h = ap (λ x. while_read x (λ t. readable o n t)) h

-- a text more, whose reading has no fault
fault-before : (text : List ℕ) (r : Result (List (List ℕ)) Fault) → first_fault (before text r) ≡ first_fault r
fault-before text (Ok v) = refl
fault-before text (Err f) = refl

module _ (f : ℕ) (o : ByteOrder) (total : ℕ) where
  -- one text more, by what it is read as
  next : (n : ℕ) (s : List ℕ) (h : Result Read TextFault) → header_text o s ≡ h → texts_in f o total (suc n) s ≡ and_more f (total - length s) h (λ t. texts_in f o total n t)
  unfolding texts_in
  next n s h e = ap (λ x. and_more f (total - length s) x (λ t. texts_in f o total n t)) e

  pub fault-more : (n : ℕ) (s : List ℕ) (r : Read) → 0 < n → header_text o s ≡ Ok r → first_fault (texts_in f o total n s) ≡ first_fault (texts_in f o total (n - 1) r.rest)
  fault-more zero s r l e = absurd (omega arith)
  fault-more (suc n) s r l e =
      let q : suc n - 1 ≡ n = omega arith in
      ap first_fault (next n s (Ok r) e) ∙ (fault-before r.text (texts_in f o total n r.rest) ∙ ap (λ k. first_fault (texts_in f o total k r.rest)) (sym q))

  pub fault_here : (n : ℕ) (s : List ℕ) (e : TextFault) → 0 < n → header_text o s ≡ Err e → first_fault (texts_in f o total n s) ≡ Some (text_fault f (total - length s) e)
  fault_here zero s e l h = absurd (omega arith)
  fault_here (suc n) s e l h = ap first_fault (next n s (Err e) h)

  pub fault-none : (n : ℕ) (s : List ℕ) → n ≡ 0 → first_fault (texts_in f o total n s) ≡ None
  unfolding texts_in
  fault-none n s e = rw e refl

  -- texts with no fault are those that can be read
  all_read : (n : ℕ) (s : List ℕ) (h : Result Read TextFault) → header_text o s ≡ h → ((t : List ℕ) → first_fault (texts_in f o total n t) ≡ None → texts_in f o total n t ≡ Ok (readable o n t)) → first_fault (texts_in f o total (suc n) s) ≡ None → texts_in f o total (suc n) s ≡ Ok (readable o (suc n) s)
  all_read n s (Ok r) e more q =
      let l : suc n - 1 ≡ n = omega arith in
      let clean : first_fault (texts_in f o total n r.rest) ≡ None =
      sym (ap first_fault (next n s (Ok r) e) ∙ fault-before r.text (texts_in f o total n r.rest)) ∙ q in
      next n s (Ok r) e
      ∙ (ap (before r.text) (more r.rest clean)
      ∙ ap Ok (ap (λ k. r.text ∷ readable o k r.rest) (sym l) ∙ sym (readable-more o (suc n) s r (omega arith) e)))
  all_read n s (Err x) e more q =
      let p : Some (text_fault f (total - length s) x) ≡ None = sym (ap first_fault (next n s (Err x) e)) ∙ q in
      let z : ◌≡◌ {A = ℕ} 0 1 = cc in absurd (omega arith)

  pub texts-read : (n : ℕ) (s : List ℕ) → first_fault (texts_in f o total n s) ≡ None → texts_in f o total n s ≡ Ok (readable o n s)
  unfolding texts_in readable
  texts-read zero s q = refl
  texts-read (suc n) s q = all_read n s (header_text o s) refl (λ t. texts-read n t) q
