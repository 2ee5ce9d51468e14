-- Where texts lie in a section.
use Rattle.std.proofs.Common.{◌≡◌, ℕ, ◌+◌, ◌-◌, ◌<◌, ◌≤◌, Bool, true, false, cond, eqb, ltb, List, [], ◌∷◌, length, take, drop, Some, None, Ok, Err, Option, sym, refl, ap, ◌∙◌, ⊎_elim, arith}
use Rattle.std.proofs.lemmas.List.{length-drop, length-take, take-take, drop_all, drop-drop}
use Rattle.std.proofs.lemmas.Bool.{cases_Bool, cases_lt}
use Rattle.wire.specs.Numbers.{number}
use Rattle.wire.specs.declared.order.ByteOrder.{ByteOrder}
use Rattle.text.specs.Pieces.{well_formed}
use Rattle.text.specs.Strings.{Read, before_nul, text_of_length, header_text}
use Rattle.text.specs.declared.strings.TextFault.TheVariants.{PastEnd, IllFormed}
use Rattle.text.proofs.Headers.{nul_within}
use Rattle.mappings.proofs.Joins.{err_not}

-- the bytes before a NUL are the first bytes
pub nul_front : (s : List ℕ) → take (length (before_nul s)) s ≡ before_nul s
unfolding before_nul
nul_front [] = refl
nul_front (b ∷ s) = ⊎_elim (λ (e : eqb b 0 ≡ true). rw e refl) (λ (e : eqb b 0 ≡ false). rw e (ap (λ (l : List ℕ). b ∷ l) (nul_front s))) (cases_Bool (eqb b 0))

cut_front : (len : ℕ) (u : List ℕ) → take (length (before_nul (take len u))) u ≡ before_nul (take len u)
cut_front len u =
    let short : length (before_nul (take len u)) ≤ len = omega (arith, nul_within (take len u), length-take len u) in
    sym (take-take (length (before_nul (take len u))) len u short) ∙ nul_front (take len u)

-- A header text is the first bytes behind its length, and what follows it is a later part.
pub record Lies (t : List ℕ) (r : Read) : Type 0 where
  pub text : take (length r.text) (drop 4 t) ≡ r.text
  pub skip : ℕ
  pub rest : r.rest ≡ drop skip t

lies_by : (b c : Bool) (t : List ℕ) (len : ℕ) (r : Read) → cond b (Err PastEnd) (cond c (Ok (record { text = before_nul (take len (drop 4 t)); rest = drop len (drop 4 t) })) (Err IllFormed)) ≡ Ok r → Lies t r
lies_by true c t len r h = err_not PastEnd r h
lies_by false false t len r h = err_not IllFormed r h
lies_by false true t len r h =
    let q : record { text = before_nul (take len (drop 4 t)); rest = drop len (drop 4 t) } ≡ r = cc in
    let text : before_nul (take len (drop 4 t)) ≡ r.text = ap (λ (x : Read). x.text) q in
    let rest : drop len (drop 4 t) ≡ r.rest = ap (λ (x : Read). x.rest) q in
    record {
      text = ap (λ (w : List ℕ). take (length w) (drop 4 t)) (sym text) ∙ cut_front len (drop 4 t) ∙ text;
      skip = 4 + len;
      rest = sym rest ∙ drop-drop len 4 t;
    }

lies_of : (n : Option ℕ) (t : List ℕ) (r : Read) → text_of_length n (drop 4 t) ≡ Ok r → Lies t r
lies_of None t r h = err_not _ r h
lies_of (Some len) t r h = lies_by (ltb (length (drop 4 t)) len) (well_formed (before_nul (take len (drop 4 t)))) t len r h

pub header_text_lies : (o : ByteOrder) (t : List ℕ) (r : Read) → header_text o t ≡ Ok r → Lies t r
header_text_lies o t r h = lies_of (number o 4 t) t r h

-- The last bytes of a section begin where their number says.
pub last-bytes : (section s : List ℕ) (k : ℕ) → s ≡ drop k section → s ≡ drop (length section - length s) section
last-bytes section s k e = ⊎_elim inside past (cases_lt k (length section))
  where
    inside : k < length section → s ≡ drop (length section - length s) section
    inside h =
        let q : k ≡ length section - length s = omega (arith, ap length e, length-drop k section) in
        e ∙ ap (λ n. drop n section) q

    past : length section ≤ k → s ≡ drop (length section - length s) section
    past h =
        let none : s ≡ [] = e ∙ drop_all k section h in
        let q : length section ≤ length section - length s = omega (arith, ap length none) in
        none ∙ sym (drop_all (length section - length s) section q)
