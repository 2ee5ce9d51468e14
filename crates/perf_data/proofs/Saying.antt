-- A question answers what its section says.
use Rattle.std.proofs.Common.{◌≡◌, ◌↔◌, ℕ, zero, suc, ◌-◌, List, [], ◌∷◌, length, drop, Some, None, Ok, Err, Option, Result, sym, refl, ap, ◌∙◌, subst, arith}
use Rattle.wire.specs.Faults.{section_fault}
use Rattle.wire.specs.Numbers.{number}
use Rattle.wire.specs.declared.order.ByteOrder.{ByteOrder}
use Rattle.wire.specs.declared.refusal.Fault.{Fault}
use Rattle.text.specs.Strings.{Read, header_text}
use Rattle.text.specs.declared.strings.TextFault.{TextFault}
use Rattle.text.proofs.HeaderLaw.{is_header_text}
use Rattle.perf_data.specs.Questions.{present, question, AnswersWhatIsSaid}
use Rattle.perf_data.specs.Says.{SaysText, TextsFollow, SaysTexts}
use Rattle.perf_data.specs.Texts.{text_fault, text_read, feature_string, before, and_more, texts_in, counted, command_line}

-- ---- any question

none_some : {P : Type 0} (s : List ℕ) → ◌≡◌ {A = Option (List ℕ)} None (Some s) → P
none_some s h = let z : ◌≡◌ {A = ℕ} 0 1 = cc in absurd (omega arith)

module _ {V : Type 0} where
  absent : {P : Type 0} (v : V) → ◌≡◌ {A = Result (Option V) Fault} (Ok None) (Ok (Some v)) → P
  absent v h = let z : ◌≡◌ {A = ℕ} 0 1 = cc in absurd (omega arith)

  refused : {P : Type 0} (f : Fault) (v : Option V) → ◌≡◌ {A = Result (Option V) Fault} (Err f) (Ok v) → P
  refused f v h = let z : ◌≡◌ {A = ℕ} 0 1 = cc in absurd (omega arith)

  read_present : (r : Result V Fault) (v : V) → present r ≡ Ok (Some v) → r ≡ Ok v
  read_present (Ok u) v h = cc
  read_present (Err f) v h = refused f (Some v) h

  question_says : (read : ByteOrder → List ℕ → Result V Fault) (Says : ByteOrder → List ℕ → V → Type 0) → ((o : ByteOrder) (s : List ℕ) (v : V) → (read o s ≡ Ok v) ↔ Says o s v)
      → (o : ByteOrder) (section : Option (List ℕ)) → AnswersWhatIsSaid Says o section (question read o section)
  question_says read Says meant o None v = (λ h. absent v h, λ p. none_some p.0 p.1)
  question_says read Says meant o (Some s) v = (
    λ h. (s, refl, (meant o s v).0 (read_present (read o s) v h)),
    λ p. let e : p.0 ≡ s = same p.0 p.1 in ap present ((meant o s v).1 (subst (λ t. Says o t v) e p.2)),
  )
    where
      same : (t : List ℕ) → ◌≡◌ {A = Option (List ℕ)} (Some s) (Some t) → t ≡ s
      same t h = cc

  pub says : (read : ByteOrder → List ℕ → Result V Fault) (Says : ByteOrder → List ℕ → V → Type 0) → ((o : ByteOrder) (s : List ℕ) (v : V) → (read o s ≡ Ok v) ↔ Says o s v)
      → (o : ByteOrder) (section : Option (List ℕ)) (r : Result (Option V) Fault) → r ≡ question read o section → AnswersWhatIsSaid Says o section r
  says read Says meant o section r e = subst (AnswersWhatIsSaid Says o section) (sym e) (question_says read Says meant o section)

-- ---- one text

not_ok : {X V : Type 0} {P : Type 0} (e : X) (v : V) → ◌≡◌ {A = Result V X} (Err e) (Ok v) → P
not_ok e v h = let z : ◌≡◌ {A = ℕ} 0 1 = cc in absurd (omega arith)

text_said : (feature : ℕ) (o : ByteOrder) (s text : List ℕ) → (feature_string feature o s ≡ Ok text) ↔ SaysText o s text
text_said feature o s text = (
  by (header_text o s) refl,
  λ p. ap (text_read feature) ((is_header_text o s text p.0).1 p.1),
)
  where
    by : (h : Result Read TextFault) → header_text o s ≡ h → text_read feature h ≡ Ok text → SaysText o s text
    by (Ok r) e h = let t : r.text ≡ text = cc in (r.rest, (is_header_text o s text r.rest).0 (e ∙ ap (λ x. Ok (record { text = x; rest = r.rest })) t))
    by (Err f) e h = not_ok (text_fault feature 0 f) text h

pub text_says : (feature : ℕ) (o : ByteOrder) (section : Option (List ℕ)) (r : Result (Option (List ℕ)) Fault) → r ≡ question (feature_string feature) o section → AnswersWhatIsSaid SaysText o section r
text_says feature o section r e = says (feature_string feature) SaysText (text_said feature) o section r e

-- ---- texts one behind the other

module _ (f : ℕ) (o : ByteOrder) (total : ℕ) where
  read_on : (n : ℕ) (s : List ℕ) (ts : List (List ℕ)) → texts_in f o total n s ≡ Ok ts → (length ts ≡ n) × TextsFollow o s ts
  unfolding texts_in
  read_on zero s ts e = ended ts e
    where
      ended : (us : List (List ℕ)) → ◌≡◌ {A = Result (List (List ℕ)) Fault} (Ok []) (Ok us) → (length us ≡ 0) × TextsFollow o s us
      ended [] h = (refl, tt)
      ended (u ∷ us) h = let z : ◌≡◌ {A = ℕ} 0 1 = cc in absurd (omega arith)
  read_on (suc n) s ts e = by (header_text o s) refl (λ t us. read_on n t us) e
    where
      more : (r : Read) (x : Result (List (List ℕ)) Fault) → header_text o s ≡ Ok r → ((us : List (List ℕ)) → x ≡ Ok us → (length us ≡ n) × TextsFollow o r.rest us) → before r.text x ≡ Ok ts → (length ts ≡ suc n) × TextsFollow o s ts
      more r (Ok us) h next q =
          let p = next us refl in
          let same : r.text ∷ us ≡ ts = cc in
          subst (λ (l : List (List ℕ)). (length l ≡ suc n) × TextsFollow o s l) same (ap suc p.0, (r.rest, (is_header_text o s r.text r.rest).0 h, p.1))
      more r (Err g) h next q = not_ok g ts q

      by : (h : Result Read TextFault) → header_text o s ≡ h → ((t : List ℕ) (us : List (List ℕ)) → texts_in f o total n t ≡ Ok us → (length us ≡ n) × TextsFollow o t us)
          → and_more f (total - length s) h (λ t. texts_in f o total n t) ≡ Ok ts → (length ts ≡ suc n) × TextsFollow o s ts
      by (Ok r) h next q = more r (texts_in f o total n r.rest) h (λ us. next r.rest us) q
      by (Err g) h next q = not_ok (text_fault f (total - length s) g) ts q

  follow_read : (ts : List (List ℕ)) (s : List ℕ) → TextsFollow o s ts → texts_in f o total (length ts) s ≡ Ok ts
  unfolding texts_in
  follow_read [] s h = refl
  follow_read (t ∷ ts) s h =
      ap (λ x. and_more f (total - length s) x (λ u. texts_in f o total (length ts) u)) ((is_header_text o s t h.0).1 h.1)
      ∙ ap (before t) (follow_read ts h.0 h.2)

texts_said : (o : ByteOrder) (s : List ℕ) (texts : List (List ℕ)) → (command_line o s ≡ Ok texts) ↔ SaysTexts o s texts
texts_said o s texts = (
  by (number o 4 s) refl,
  λ p. ap (counted o s) p.0 ∙ follow_read 11 o (length s) texts (drop 4 s) p.1,
)
  where
    by : (n : Option ℕ) → number o 4 s ≡ n → counted o s n ≡ Ok texts → SaysTexts o s texts
    by None e h = not_ok (section_fault 8 11 0) texts h
    by (Some n) e h = let p = read_on 11 o (length s) n (drop 4 s) texts h in (e ∙ ap Some (sym p.0), p.1)

pub texts_say : (o : ByteOrder) (section : Option (List ℕ)) (r : Result (Option (List (List ℕ))) Fault) → r ≡ question command_line o section → AnswersWhatIsSaid SaysTexts o section r
texts_say o section r e = says command_line SaysTexts texts_said o section r e
