-- The numbers and texts of a record are read again.
use Rattle.std.proofs.Common.{◌≡◌, ℕ, ◌+◌, ◌-◌, ◌^◌, ◌<◌, ◌≤◌, Bool, true, false, cond, eqb, ltb, List, [], ◌∷◌, ◌++◌, length, drop, Some, None, Ok, Err, Option, Result, sym, refl, ap, ◌∙◌, arith}
use Rattle.std.proofs.lemmas.List.{append_assoc, length-append, length-drop, drop_at, drop-drop}
use Rattle.std.proofs.lemmas.Bool.{cond-false, ltb-false, le-ltb, eqb-false, ne_eqb}
use Rattle.wire.specs.Numbers.{number, bytes_of}
use Rattle.wire.specs.declared.order.ByteOrder.{ByteOrder}
use Rattle.wire.specs.declared.order.ByteOrder.TheVariants.{Little}
use Rattle.wire.specs.declared.refusal.Fault.{Fault}
use Rattle.wire.proofs.Digits.{length-bytes_of, number-again, number_below}
use Rattle.text.specs.Pieces.{well_formed}
use Rattle.text.specs.Strings.{before_nul}
use Rattle.text.proofs.Headers.{nul_again, nul_within, nul_ends}
use Rattle.simpleperf.specs.Parse.{Got, got, and_then, read_number, number_or}
use Rattle.simpleperf.specs.Tables.{fault_at, u32_in, u64_in, text_in, type_in, u64_or_none}
use Rattle.simpleperf.proofs.Items.{not_ok}
use Rattle.facts.specs.Written.{u32, u64, ended}
use Rattle.symbols_read_back.proofs.Law.{Law, got-is, and_then_ok}

-- ---- numbers

-- A number that so many bytes can hold.
abbrev pub Fits : ℕ → ℕ → Type 0
Fits w n = n < 256 ^ w

number_ok : (f : Fault) (w : ℕ) (s : List ℕ) (x : Option ℕ) (g : Got ℕ) → read_number f w s x ≡ Ok g → (x ≡ Some g.value) × (g.rest ≡ drop w s)
number_ok f w s None g e = not_ok f g e
number_ok f w s (Some n) g e = let q = got-is n (drop w s) g e in (ap (λ h. Some h.value) q, ap (λ h. h.rest) (sym q))

pub number_law : (short : ℕ → List ℕ → Fault) (w : ℕ) → Law (λ o n s. number_or (short n s) o w s) (bytes_of Little w) (Fits w) 0
number_law short w =
    record {
      fine = λ o n s g b e. (number_below o w s g.value (number_ok (short n s) w s (number o w s) g e).0).0;
      again = λ v f n t.
          let b = bytes_of Little w v in
          ap (read_number (short n (b ++ t)) w (b ++ t)) (number-again w v t f) ∙ ap (λ u. got v u) (drop_at b t w (length-bytes_of w v));
      short = λ o n s g b e.
          let (is, rest) = number_ok (short n s) w s (number o w s) g e in
          let (small, enough) = number_below o w s g.value is in
          rw rest (omega (arith, length-bytes_of w g.value, length-drop w s));
    }

pub u32_law : Law u32_in u32 (Fits 4) 0
u32_law = number_law (fault_at 11) 4

pub u64_law : Law u64_in u64 (Fits 8) 0
u64_law = number_law (fault_at 11) 8

-- ---- what is tested once it is read

pub tested_ok : {V : Type 0} (b : Bool) (f : Fault) (r : Result V Fault) (v : V) → cond b (Err f) r ≡ Ok v → (b ≡ false) × (r ≡ Ok v)
tested_ok true f r v e = not_ok f v e
tested_ok false f r v e = (refl, e)

-- A file's type.
pub type_law : Law type_in u32 (λ n. n ≤ 5) 0
type_law =
    record {
      fine = λ o n s g b e.
          let (h, eh, e') = and_then_ok (u32_in o n s) (checked n s) g e in
          let (small, is) = type_ok n s h.value h.rest g e' in
          rw (← is) small;
      again = λ v f n t.
          ap (λ x. and_then x (checked n (u32 v ++ t))) (u32_law.again v (omega arith) n t)
          ∙ cond-false (ltb 5 v) (Err (fault_at 13 n (u32 v ++ t))) (got v t) (le-ltb 5 v f);
      short = λ o n s g b e.
          let (h, eh, e') = and_then_ok (u32_in o n s) (checked n s) g e in
          let (small, is) = type_ok n s h.value h.rest g e' in
          rw (← is) (u32_law.short o n s h b eh);
    }
  where
    checked : ℕ → List ℕ → ℕ → List ℕ → Result (Got ℕ) Fault
    checked n s v t = cond (ltb 5 v) (Err (fault_at 13 n s)) (got v t)

    type_ok : (n : ℕ) (s : List ℕ) (v : ℕ) (t : List ℕ) (g : Got ℕ) → checked n s v t ≡ Ok g → (v ≤ 5) × (record { value = v; rest = t } ≡ g)
    type_ok n s v t g e =
        let (below, f) = tested_ok (ltb 5 v) (fault_at 13 n s) (got v t) g e in
        (ltb-false 5 v below, got-is v t g f)

-- ---- texts

-- A text that a NUL can end.
pub record Text (w : List ℕ) : Type 0 where
  pub formed : well_formed w ≡ true
  pub bare : before_nul w ≡ w

text_ok : (n : ℕ) (s : List ℕ) (g : Got (List ℕ)) → text_in n s ≡ Ok g → Text g.value × (length g.value + 1 + length g.rest ≡ length s)
text_ok n s g e =
    let w = before_nul s in
    let (some, f) = tested_ok (eqb (length w) (length s)) (fault_at 15 n s) (cond (well_formed w) (got w (drop (length w + 1) s)) (Err (fault_at 10 n s))) g e in
    let (good, q) = formed_ok (well_formed w) (fault_at 10 n s) (got w (drop (length w + 1) s)) g f in
    let is = got-is w (drop (length w + 1) s) g q in
    rw (← is) (record { formed = good; bare = nul_again s }, omega (arith, eqb-false (length w) (length s) some, nul_within s, length-drop (length w + 1) s))
  where
    formed_ok : (b : Bool) (f : Fault) (r : Result (Got (List ℕ)) Fault) (g : Got (List ℕ)) → cond b r (Err f) ≡ Ok g → (b ≡ true) × (r ≡ Ok g)
    formed_ok true f r g e = (refl, e)
    formed_ok false f r g e = not_ok f g e

text-again : (n : ℕ) (w t : List ℕ) → Text w → text_in n (ended w ++ t) ≡ got w t
text-again n w t f =
    let s = w ++ 0 ∷ t in
    let is : before_nul s ≡ w = nul_ends w t f.bare in
    let some : eqb (length w) (length s) ≡ false = ne_eqb (length w) (length s) (λ e. omega (arith, length-append w (0 ∷ t))) in
    let rest : drop (length w + 1) s ≡ t = sym (drop-drop 1 (length w) s) ∙ ap (drop 1) (drop_at w (0 ∷ t) (length w) refl) in
    rw (append_assoc, is, some, f.formed, rest)

pub text_law : Law (λ o. text_in) ended Text 0
text_law =
    record {
      fine = λ o n s g b e. (text_ok n s g e).0;
      again = λ w f n t. text-again n w t f;
      short = λ o n s g b e. omega (arith, (text_ok n s g e).1, length-append g.value (0 ∷ []));
    }

-- ---- an offset that may be left out

or_none : (o : ByteOrder) (n : ℕ) (s : List ℕ) → 0 < length s → u64_or_none o n s ≡ u64_in o n s
or_none o n [] h = absurd (omega arith)
or_none o n (b ∷ s) h = refl

-- It is written in any case.
pub offset_law : Law u64_or_none u64 (Fits 8) 8
offset_law =
    record {
      fine = fine;
      again = λ v f n t. or_none Little n (u64 v ++ t) (omega (arith, length-append (u64 v) t, length-bytes_of 8 v)) ∙ u64_law.again v f n t;
      short = short;
    }
  where
    fine : (o : ByteOrder) (n : ℕ) (s : List ℕ) (g : Got ℕ) → length s ≤ 16777216 → u64_or_none o n s ≡ Ok g → g.value < 256 ^ 8
    fine o n [] g b e = rw (← got-is (2 ^ 64 - 1) [] g e) (omega arith)
    fine o n (x ∷ s) g b e = u64_law.fine o n (x ∷ s) g b e

    short : (o : ByteOrder) (n : ℕ) (s : List ℕ) (g : Got ℕ) → length s ≤ 16777216 → u64_or_none o n s ≡ Ok g → length (u64 g.value) + length g.rest ≤ length s + 8
    short o n [] g b e = let q = got-is (2 ^ 64 - 1) [] g e in omega (arith, length-bytes_of 8 g.value, ap (λ h. length h.rest) q)
    short o n (x ∷ s) g b e = omega (arith, u64_law.short o n (x ∷ s) g b e)
