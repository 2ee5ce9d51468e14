-- Header texts are read exactly where they stand.
use Rattle.std.proofs.Common.{◌≡◌, ◌↔◌, ℕ, zero, suc, ◌<◌, ◌≤◌, Bool, true, false, eqb, ltb, List, [], ◌∷◌, ◌++◌, length, get_or, take, drop, Some, None, Ok, Err, Result, sym, refl, ap, ◌∙◌, subst, inl, inr, ⊎_elim, arith}
use Rattle.std.specs.List.{Contains}
use Rattle.std.proofs.lemmas.List.{length-append, length-take-le, take_at, drop_at, append_assoc, take-append-drop}
use Rattle.std.proofs.lemmas.Bool.{le-ltb, ltb-false, cond-true, cond-false, cases_Bool, eqb-true, eqb-false}
use Rattle.wire.specs.declared.order.ByteOrder.{ByteOrder}
use Rattle.wire.specs.Numbers.{number, number_of}
use Rattle.text.specs.declared.strings.TextFault.{TextFault}
use Rattle.text.specs.declared.strings.TextFault.TheVariants.{ShortLength, PastEnd, IllFormed}
use Rattle.text.specs.Pieces.{well_formed}
use Rattle.text.specs.Strings.{before_nul, Read, checked, text_of, text_of_length, header_text}
use Rattle.text.specs.HeaderTexts.{FieldHolds, IsHeaderText, ReadsHeaderText}
use Rattle.text.proofs.Readings.{checked-is, checked_not}
use Rattle.text.proofs.Wholes.{well_formed_decides}
use Rattle.text.proofs.Headers.{nul_ends}

-- ---- a field and its text

nowhere : ¬ Contains {X = ℕ} [] 0
nowhere c = absurd (omega (arith, c.1))

none_before : (b : ℕ) (s : List ℕ) → eqb b 0 ≡ false → ¬ Contains s 0 → ¬ Contains (b ∷ s) 0
none_before b s e n c = by c.0 c.1 c.2
  where
    by : (k : ℕ) → k < suc (length s) → get_or (b ∷ s) k 0 ≡ 0 → ⊥
    by zero l h = eqb-false b 0 e h
    by (suc k) l h = n (k, omega arith, h)

holds_more : (b : ℕ) (s t : List ℕ) → eqb b 0 ≡ false → FieldHolds s t → FieldHolds (b ∷ s) (b ∷ t)
holds_more b s t e h =
    record {
      padded = ⊎_elim (λ p. inl (ap (λ (l : List ℕ). b ∷ l) p)) (λ p. inr (p.0, ap (λ (l : List ℕ). b ∷ l) p.1)) h.padded;
      bare = none_before b t e h.bare;
    }

holds_cut : (s : List ℕ) → FieldHolds s (before_nul s)
unfolding before_nul
holds_cut [] = record { padded = inl refl; bare = nowhere }
holds_cut (b ∷ s) =
    ⊎_elim
    (λ (e : eqb b 0 ≡ true). rw e (record { padded = inr (s, ap (λ (x : ℕ). x ∷ s) (eqb-true b 0 e)); bare = nowhere }))
    (λ (e : eqb b 0 ≡ false). rw e (holds_more b s (before_nul s) e (holds_cut s)))
    (cases_Bool (eqb b 0))

uncut : (t : List ℕ) → ¬ Contains t 0 → before_nul t ≡ t
unfolding before_nul
uncut [] n = refl
uncut (b ∷ t) n =
    ⊎_elim
    (λ (e : eqb b 0 ≡ true). absurd (n (0, omega arith, eqb-true b 0 e)))
    (λ (e : eqb b 0 ≡ false). rw e (ap (λ (l : List ℕ). b ∷ l) (uncut t (λ c. n (suc c.0, omega (arith, c.1), c.2)))))
    (cases_Bool (eqb b 0))

cut_held : (s t : List ℕ) → FieldHolds s t → before_nul s ≡ t
cut_held s t h =
    ⊎_elim
    (λ (e : s ≡ t). ap before_nul e ∙ uncut t h.bare)
    (λ (p : (padding : List ℕ) × (s ≡ t ++ 0 ∷ padding)). ap before_nul p.1 ∙ nul_ends t p.0 (uncut t h.bare))
    h.padded

-- ---- what is read stands there

module _ (o : ByteOrder) (s : List ℕ) where
  parts : (len : ℕ) (text rest : List ℕ) → 4 ≤ length s → number_of o (take 4 s) ≡ len → len ≤ length (drop 4 s)
      → before_nul (take len (drop 4 s)) ≡ text → drop len (drop 4 s) ≡ rest → well_formed text ≡ true → IsHeaderText o s text rest
  parts len text rest four says l t r f =
      let front : List ℕ = take 4 s in
      let field : List ℕ = take len (drop 4 s) in
      record {
        len = front;
        field = field;
        bytes = sym (append_assoc front field rest ∙ ap (λ (x : List ℕ). front ++ (field ++ x)) (sym r) ∙ ap (λ (x : List ℕ). front ++ x) (take-append-drop len (drop 4 s)) ∙ take-append-drop 4 s);
        four = length-take-le 4 s four;
        says = says ∙ sym (length-take-le len (drop 4 s) l);
        holds = subst (FieldHolds field) t (holds_cut field);
        formed = (well_formed_decides text).0 f;
      }

  never : {X : Type 0} (e : TextFault) (r : Read) → ◌≡◌ {A = Result Read TextFault} (Err e) (Ok r) → X
  never e r p = let z : ◌≡◌ {A = ℕ} 0 1 = cc in absurd (omega arith)

  there : (text rest : List ℕ) → header_text o s ≡ Ok (record { text = text; rest = rest }) → IsHeaderText o s text rest
  there text rest e = ⊎_elim few enough (cases_Bool (ltb (length s) 4))
    where
      r : Read
      r = record { text = text; rest = rest }

      len : ℕ
      len = number_of o (take 4 s)

      field : List ℕ
      field = take len (drop 4 s)

      few : ltb (length s) 4 ≡ true → IsHeaderText o s text rest
      few h = never ShortLength r (sym (ap (λ n. text_of_length n (drop 4 s)) (cond-true (ltb (length s) 4) None (Some len) h)) ∙ e)

      judged : 4 ≤ length s → len ≤ length (drop 4 s) → checked (before_nul field) (drop len (drop 4 s)) ≡ Ok r → (v : Bool) → well_formed (before_nul field) ≡ v → IsHeaderText o s text rest
      judged four l k true g =
          let q : record { text = before_nul field; rest = drop len (drop 4 s) } ≡ r = let p = checked-is (before_nul field) (drop len (drop 4 s)) (sym g) in cc in
          let t : before_nul field ≡ text = ap (λ (x : Read). x.text) q in
          parts len text rest four refl l t (ap (λ (x : Read). x.rest) q) (ap well_formed (sym t) ∙ g)
      judged four l k false g = never IllFormed r (sym (checked_not (before_nul field) (drop len (drop 4 s)) (sym g)) ∙ k)

      enough : ltb (length s) 4 ≡ false → IsHeaderText o s text rest
      enough h =
          let four : 4 ≤ length s = ltb-false (length s) 4 h in
          let p : text_of len (drop 4 s) ≡ Ok r = sym (ap (λ n. text_of_length n (drop 4 s)) (cond-false (ltb (length s) 4) None (Some len) h)) ∙ e in
          ⊎_elim
          (λ (x : ltb (length (drop 4 s)) len ≡ true). never PastEnd r (sym (cond-true (ltb (length (drop 4 s)) len) (Err PastEnd) (checked (before_nul field) (drop len (drop 4 s))) x) ∙ p))
          (λ (x : ltb (length (drop 4 s)) len ≡ false). judged four (ltb-false (length (drop 4 s)) len x) (sym (cond-false (ltb (length (drop 4 s)) len) (Err PastEnd) (checked (before_nul field) (drop len (drop 4 s))) x) ∙ p) (well_formed (before_nul field)) refl)
          (cases_Bool (ltb (length (drop 4 s)) len))

-- ---- and what stands there is read

read_so : (o : ByteOrder) (l field rest text : List ℕ) → length l ≡ 4 → number_of o l ≡ length field → before_nul field ≡ text → well_formed text ≡ true
    → header_text o (l ++ (field ++ rest)) ≡ Ok (record { text = text; rest = rest })
read_so o l field rest text four e t f =
    let s : List ℕ = l ++ (field ++ rest) in
    let n : number o 4 s ≡ Some (length field) = cond-false (ltb (length s) 4) None _ (le-ltb (length s) 4 (omega (arith, length-append l (field ++ rest))))
    ∙ ap (λ (x : List ℕ). Some (number_of o x)) (take_at l (field ++ rest) 4 four) ∙ ap Some e in
    ap (λ x. text_of_length x (drop 4 s)) n ∙ ap (text_of (length field)) (drop_at l (field ++ rest) 4 four)
    ∙ cond-false (ltb (length (field ++ rest)) (length field)) _ _ (le-ltb (length (field ++ rest)) (length field) (omega (arith, length-append field rest)))
    ∙ rw (take_at field rest (length field) refl, drop_at field rest (length field) refl, t) (checked-is text rest (sym f))

back : (o : ByteOrder) (s text rest : List ℕ) → IsHeaderText o s text rest → header_text o s ≡ Ok (record { text = text; rest = rest })
back o s text rest h =
    ap (header_text o) (h.bytes ∙ append_assoc h.len h.field rest)
    ∙ read_so o h.len h.field rest text h.four h.says (cut_held h.field text h.holds) ((well_formed_decides text).1 h.formed)

pub is_header_text : (o : ByteOrder) (s text rest : List ℕ) → (header_text o s ≡ Ok (record { text = text; rest = rest })) ↔ IsHeaderText o s text rest
is_header_text o s text rest = (there o s text rest, back o s text rest)

pub reads_header_text : (o : ByteOrder) (s : List ℕ) (r : Result Read TextFault) → r ≡ header_text o s → ReadsHeaderText o s r
reads_header_text o s r e text rest = (λ h. there o s text rest (sym e ∙ h), λ h. e ∙ back o s text rest h)
