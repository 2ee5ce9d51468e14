-- A header text, and a counted list of them, are read again.
use Rattle.std.proofs.Common.{◌≡◌, ℕ, zero, suc, ◌+◌, ◌-◌, ◌^◌, ◌<◌, ◌≤◌, true, List, [], ◌∷◌, ◌++◌, length, Ok, Err, Result, sym, refl, ap, ◌∙◌, subst, arith}
use Rattle.std.specs.List.{flat_map, AllByRecursion as All}
use Rattle.std.proofs.lemmas.List.{append_assoc, append-nil, length-append}
use Rattle.wire.specs.Faults.{section_fault}
use Rattle.wire.specs.declared.order.ByteOrder.{ByteOrder}
use Rattle.wire.specs.declared.order.ByteOrder.TheVariants.{Little}
use Rattle.wire.specs.declared.refusal.Fault.{Fault}
use Rattle.wire.proofs.Digits.{length-bytes_of, number-bytes}
use Rattle.text.specs.Pieces.{well_formed}
use Rattle.text.specs.Strings.{Read, before_nul, header_text}
use Rattle.text.specs.declared.strings.TextFault.{TextFault}
use Rattle.text.proofs.Headers.{header_text_told, header_text-again}
use Rattle.perf_data.specs.Texts.{text_fault, text_read, feature_string, before, and_more, texts_in, counted, command_line}
use Rattle.mappings.proofs.Joins.{err_not}
use Rattle.facts.specs.Laws.{ReadsBack}
use Rattle.facts.specs.Written.{u32, text_bytes, counted_bytes}
use Rattle.read_back.proofs.Counted.{Listed, Fines, counted_law}
use Rattle.read_back.proofs.Law.{Law, law_back, formed_ok}
use Rattle.read_back.proofs.Numbers.{length_past}

-- ---- one text

-- A text that a header text can hold.
pub record Fine (w : List ℕ) : Type 0 where
  pub formed : well_formed w ≡ true
  pub bare : before_nul w ≡ w
  pub size : length w < 2 ^ 32

pub text_fine : (o : ByteOrder) (s : List ℕ) (r : Read) → length s ≤ 16777216 → header_text o s ≡ Ok r → Fine r.text
text_fine o s r b e =
    let t = header_text_told o s r e in
    record { formed = t.formed; bare = t.bare; size = omega (arith, t.short) }

pub length-text : (w : List ℕ) → length (text_bytes w) ≡ 4 + length w
length-text w = length_past 4 (length w) w

-- Whatever follows it.
pub text-again : (w t : List ℕ) → Fine w → header_text Little (text_bytes w ++ t) ≡ Ok (record { text = w; rest = t })
text-again w t f =
    let l = u32 (length w) in
    ap (header_text Little) (append_assoc l w t)
    ∙ header_text-again Little l w t (length-bytes_of 4 (length w)) (number-bytes 4 (length w) f.size) f.formed f.bare

module _ (feature : ℕ) where
  read_ok : (r : Result Read TextFault) (v : List ℕ) → text_read feature r ≡ Ok v → (x : Read) × (r ≡ Ok x) × (x.text ≡ v)
  read_ok = formed_ok (text_read feature) (λ (x : Read). x.text) (text_fault feature 0) (λ x. refl) (λ f. refl)

  pub text_law : Law (feature_string feature) text_bytes Fine
  text_law =
      record {
        fine = λ o s v b e. let (r, p, q) = read_ok (header_text o s) v e in subst Fine q (text_fine o s r b p);
        again = λ w f. ap (λ x. text_read feature (header_text Little x)) (sym (append-nil (text_bytes w))) ∙ ap (text_read feature) (text-again w [] f);
        short = λ o s v b e.
            let (r, p, q) = read_ok (header_text o s) v e in
            omega (arith, (header_text_told o s r p).short, length-text v, ap length q);
      }

  pub text_back : ReadsBack (feature_string feature) text_bytes
  text_back = law_back Fine text_law

-- ---- so many texts

before_ok : (t : List ℕ) (r : Result (List (List ℕ)) Fault) (vs : List (List ℕ)) → before t r ≡ Ok vs → (ws : List (List ℕ)) × (r ≡ Ok ws) × (t ∷ ws ≡ vs)
before_ok t = formed_ok (before t) (λ ws. t ∷ ws) (λ f. f) (λ ws. refl) (λ f. refl)

more_ok : (feature at : ℕ) (r : Result Read TextFault) (more : List ℕ → Result (List (List ℕ)) Fault) (vs : List (List ℕ)) → and_more feature at r more ≡ Ok vs → (x : Read) × (ws : List (List ℕ)) × (r ≡ Ok x) × (more x.rest ≡ Ok ws) × (x.text ∷ ws ≡ vs)
more_ok feature at (Ok x) more vs e = let (ws, p, q) = before_ok x.text (more x.rest) vs e in (x, ws, refl, p, q)
more_ok feature at (Err f) more vs e = err_not _ vs e

module _ (feature : ℕ) (o : ByteOrder) (total : ℕ) where
  pub listed : (n : ℕ) (s : List ℕ) (vs : List (List ℕ)) → texts_in feature o total n s ≡ Ok vs → Listed text_bytes Fine n s vs
  unfolding texts_in
  listed zero s vs e =
      let q : [] ≡ vs = cc in
      subst (Listed text_bytes Fine zero s) q (record { fine = λ b. tt; count = omega arith; short = omega arith })
  listed (suc n) s vs e =
      let (r, ws, p, m, q) = more_ok feature (total - length s) (header_text o s) (λ t. texts_in feature o total n t) vs e in
      let l = listed n r.rest ws m in
      let t = (header_text_told o s r p).short in
      subst (Listed text_bytes Fine (suc n) s) q
      (record {
        fine = λ b. (text_fine o s r b p, l.fine (omega arith));
        count = omega (arith, l.count);
        short = omega (arith, l.short, length-append (text_bytes r.text) (flat_map text_bytes ws), length-text r.text);
      })

module _ (feature total : ℕ) where
  pub texts-again : (vs : List (List ℕ)) → All Fine vs → texts_in feature Little total (length vs) (flat_map text_bytes vs) ≡ Ok vs
  unfolding texts_in
  texts-again [] f = refl
  texts-again (v ∷ vs) f =
      ap (λ x. and_more feature (total - length (flat_map text_bytes (v ∷ vs))) x (λ t. texts_in feature Little total (length vs) t)) (text-again v (flat_map text_bytes vs) f.0)
      ∙ ap (before v) (texts-again vs f.1)

-- ---- a command line

pub texts_back : ReadsBack command_line (counted_bytes text_bytes)
texts_back =
    law_back (Fines Fine)
    (counted_law (texts_in 11) counted (section_fault 8 11 0) (λ o s. refl) (λ o s n. refl) text_bytes Fine (listed 11) (texts-again 11))
