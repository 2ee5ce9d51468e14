-- What a header text is refused with.
use Rattle.std.proofs.Common.{◌≡◌, ℕ, ◌<◌, ◌≤◌, Bool, true, false, ltb, List, length, take, drop, Some, None, Ok, Err, Result, IfErr, sym, refl, ap, ◌∙◌, subst, ⊎_elim, arith}
use Rattle.std.proofs.lemmas.List.{length-drop}
use Rattle.std.proofs.lemmas.Bool.{ltb-true, ltb-false, cond-true, cond-false, cases_Bool, false≢true}
use Rattle.wire.specs.declared.order.ByteOrder.{ByteOrder}
use Rattle.wire.specs.Numbers.{number_of}
use Rattle.text.specs.declared.strings.TextFault.{TextFault}
use Rattle.text.specs.declared.strings.TextFault.TheVariants.{ShortLength, PastEnd, IllFormed}
use Rattle.text.specs.Pieces.{well_formed}
use Rattle.std.specs.Borrow.{Bor}
use Rattle.text.specs.Strings.{before_nul, Read, checked, text_of, text_of_length, header_text, read_of}
use Rattle.text.specs.Refusals.{Fails, IsRefused}
use Rattle.text.proofs.Readings.{checked-is, checked_not}
use Rattle.text.proofs.Wholes.{well_formed_decides}

refused : (o : ByteOrder) (s : List ℕ) (e : TextFault) → Fails o s e → IsRefused o s e
refused o s ShortLength f = record { fails = f; refusal = λ feature at. refl }
refused o s PastEnd f = record { fails = f; refusal = λ feature at. refl }
refused o s IllFormed f = record { fails = f; refusal = λ feature at. refl }

same_fault : (e f : TextFault) → ◌≡◌ {A = Result Read TextFault} (Err e) (Err f) → e ≡ f
same_fault e f h = cc

fails : (o : ByteOrder) (s : List ℕ) (e : TextFault) → header_text o s ≡ Err e → Fails o s e
fails o s e h = ⊎_elim few enough (cases_Bool (ltb (length s) 4))
  where
    len : ℕ
    len = number_of o (take 4 s)

    w : List ℕ
    w = before_nul (take len (drop 4 s))

    few : ltb (length s) 4 ≡ true → Fails o s e
    few b = subst (Fails o s) (same_fault ShortLength e (sym (ap (λ n. text_of_length n (drop 4 s)) (cond-true (ltb (length s) 4) None (Some len) b)) ∙ h)) (ltb-true (length s) 4 b)

    judged : 4 ≤ length s → len ≤ length (drop 4 s) → checked w (drop len (drop 4 s)) ≡ Err e → (v : Bool) → well_formed w ≡ v → Fails o s e
    judged four l k true g = let z : ◌≡◌ {A = Result Read TextFault} (Err e) (Ok (record { text = w; rest = drop len (drop 4 s) })) = sym k ∙ checked-is w (drop len (drop 4 s)) (sym g) in absurd (unlike z)
      where
        unlike : {r : Read} → ◌≡◌ {A = Result Read TextFault} (Err e) (Ok r) → ⊥
        unlike p = let z : ◌≡◌ {A = ℕ} 0 1 = cc in omega arith
    judged four l k false g =
        subst (Fails o s) (same_fault IllFormed e (sym (checked_not w (drop len (drop 4 s)) (sym g)) ∙ k))
        (four, omega (arith, length-drop 4 s), λ f. false≢true (sym g ∙ (well_formed_decides w).1 f))

    enough : ltb (length s) 4 ≡ false → Fails o s e
    enough b =
        let four : 4 ≤ length s = ltb-false (length s) 4 b in
        let p : text_of len (drop 4 s) ≡ Err e = sym (ap (λ n. text_of_length n (drop 4 s)) (cond-false (ltb (length s) 4) None (Some len) b)) ∙ h in
        ⊎_elim
        (λ (x : ltb (length (drop 4 s)) len ≡ true).
        let l : length (drop 4 s) < len = ltb-true (length (drop 4 s)) len x in
        subst (Fails o s) (same_fault PastEnd e (sym (cond-true (ltb (length (drop 4 s)) len) (Err PastEnd) (checked w (drop len (drop 4 s))) x) ∙ p)) (four, omega (arith, length-drop 4 s)))
        (λ (x : ltb (length (drop 4 s)) len ≡ false). judged four (ltb-false (length (drop 4 s)) len x) (sym (cond-false (ltb (length (drop 4 s)) len) (Err PastEnd) (checked w (drop len (drop 4 s))) x) ∙ p) (well_formed w) refl)
        (cases_Bool (ltb (length (drop 4 s)) len))

pub is_refused : (o : ByteOrder) (s : List ℕ) (e : TextFault) → Err e ≡ header_text o s → IsRefused o s e
is_refused o s e h = refused o s e (fails o s e (sym h))

pub refused_if : (o : ByteOrder) (s : List ℕ) (r : Result (Bor (List ℕ) × Bor (List ℕ)) TextFault) → read_of r ≡ header_text o s → IfErr r (IsRefused o s)
refused_if o s (Ok x) h = tt
refused_if o s (Err e) h = is_refused o s e h
