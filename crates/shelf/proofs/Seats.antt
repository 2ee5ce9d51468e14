-- The place that a head gets.
use Rattle.std.proofs.Common.{◌≡◌, ℕ, ◌+◌, ◌<◌, ◌≤◌, Bool, true, false, cond, eqb, ltb, ◌⊎◌, List, length, Some, None, Ok, Option, Result, refl, sym, ap, ◌∙◌, subst, inl, inr, ⊎_elim, arith}
use Rattle.std.proofs.lemmas.Slice.Eq.{bytes_eq-Decides}
use Rattle.std.proofs.lemmas.Bool.{and_parts, and_cases, both_ways, cases_Bool, cond-true, cond-false, eqb-true, eq-eqb, ne_eqb, ltb-true, lt-ltb}
use Rattle.std.specs.Str.{bytes_eq}
use Rattle.wire.specs.declared.refusal.Fault.{Fault}
use Rattle.shelf.specs.Contents.{Contents, blank, row_in, put, handed_out}
use Rattle.shelf.specs.Calls.{refused, first_with, is_numbered, has_head, free_place, FreeAt, FindsFree, taking, seat, seat_for, fresh, recount, number_at, seated, number_of, seated_at, file_answer, file_after}
use Rattle.shelf.proofs.Firsts.{Found, first_found}

-- the free place is one
numbered-free : (c : Contents) (o : Option ℕ) → Found (is_numbered 0) c.rows (blank 0) o → FreeAt c o
numbered-free c None f = λ j l e. both_ways (eqb (row_in c j).number 0) (f j l) (eq-eqb (row_in c j).number 0 e)
numbered-free c (Some i) f = (f.0, eqb-true (row_in c i).number 0 f.1)

pub finds_free : FindsFree
unfolding free_place
finds_free c = numbered-free c (free_place c.rows) (first_found (is_numbered 0) c.rows (blank 0))

-- a group has the head
pub record Joins (c : Contents) (h : List ℕ) (i : ℕ) : Type 0 where
  pub place : i < length c.rows
  pub held : 1 ≤ (row_in c i).number
  pub same : (row_in c i).head ≡ h
  pub room : (row_in c i).count < 4294967295

-- no group has it
pub record Takes (c : Contents) (h : List ℕ) (i : ℕ) : Type 0 where
  pub place : i < length c.rows
  pub vacant : (row_in c i).number ≡ 0
  pub unlike : (j : ℕ) → j < length c.rows → 1 ≤ (row_in c j).number → (row_in c j).head ≡ h → ⊥
  pub number : c.next < 4294967296

chosen : {X : Type 0} (b : Bool) (x y : Result X Fault) (r : Result X Fault) → cond b x y ≡ r → (y ≡ r → ⊥) → b ≡ true
chosen b x y r e z = ⊎_elim (λ t. t) (λ t. absurd (z (sym (cond-false b x y t) ∙ e))) (cases_Bool b)

taken : (c : Contents) (h : List ℕ) (i : ℕ) (o : Option ℕ) → ((j : ℕ) → j < length c.rows → has_head h (row_in c j) ≡ false) → FreeAt c o → taking c o ≡ Ok i → Takes c h i
taken c h i None n f e = let z : ◌≡◌ {A = ℕ} 0 1 = cc in absurd (omega arith)
taken c h i (Some k) n f e =
    let b = chosen (ltb c.next 4294967296) (Ok k) (refused 36) (Ok i) e (λ z. let w : ◌≡◌ {A = ℕ} 0 1 = cc in omega arith) in
    let same : k ≡ i = let q = cond-true (ltb c.next 4294967296) (Ok k) (refused 36) b in cc in
    record {
      place = subst (λ (x : ℕ). x < length c.rows) same f.0;
      vacant = subst (λ (x : ℕ). (row_in c x).number ≡ 0) same f.1;
      unlike = λ j l p q. ⊎_elim (λ t. both_ways (ltb 0 (row_in c j).number) t (lt-ltb 0 (row_in c j).number p)) (λ t. both_ways (bytes_eq (row_in c j).head h) t ((bytes_eq-Decides (row_in c j).head h).1 q)) (and_cases (ltb 0 (row_in c j).number) (bytes_eq (row_in c j).head h) (n j l));
      number = ltb-true c.next 4294967296 b;
    }

seated-at : (c : Contents) (h : List ℕ) (i : ℕ) (o : Option ℕ) → Found (has_head h) c.rows (blank 0) o → seat c o ≡ Ok i → Joins c h i ⊎ Takes c h i
seated-at c h i None f e = inr (taken c h i (free_place c.rows) f (finds_free c) e)
seated-at c h i (Some k) f e =
    let b = chosen (ltb (row_in c k).count 4294967295) (Ok k) (refused 35) (Ok i) e (λ z. let w : ◌≡◌ {A = ℕ} 0 1 = cc in omega arith) in
    let same : k ≡ i = let q = cond-true (ltb (row_in c k).count 4294967295) (Ok k) (refused 35) b in cc in
    let t = and_parts (ltb 0 (row_in c k).number) (bytes_eq (row_in c k).head h) f.1 in
    inl
    (subst (Joins c h) same
    (record {
      place = f.0;
      held = ltb-true 0 (row_in c k).number t.0;
      same = (bytes_eq-Decides (row_in c k).head h).0 t.1;
      room = ltb-true (row_in c k).count 4294967295 b;
    }))

-- the place is a group's that has the head, or free
pub seat-is : (c : Contents) (h : List ℕ) (i : ℕ) → seat_for c h ≡ Ok i → Joins c h i ⊎ Takes c h i
seat-is c h i e = seated-at c h i (first_with (has_head h) c.rows) (first_found (has_head h) c.rows (blank 0)) e

-- what is done there
module _ (c : Contents) (i : ℕ) (vacant : (row_in c i).number ≡ 0) where
  pub number_new : c.next ≡ number_at c i
  number_new = sym (cond-true _ _ _ (eq-eqb (row_in c i).number 0 vacant))

  pub seated_new : (h : List ℕ) (g : ℕ) → g ≡ c.next → handed_out (put c i (fresh c.strip g h)) ≡ seated c h i
  seated_new h g e = ap (λ (n : ℕ). handed_out (put c i (fresh c.strip n h))) e ∙ sym (cond-true _ _ _ (eq-eqb (row_in c i).number 0 vacant))

module _ (c : Contents) (i : ℕ) (held : (row_in c i).number ≡ 0 → ⊥) where
  pub number-held : (row_in c i).number ≡ number_at c i
  number-held = sym (cond-false _ _ _ (ne_eqb (row_in c i).number 0 held))

  pub seated-held : (h : List ℕ) (n : ℕ) → n ≡ (row_in c i).count + 1 → put c i (recount (row_in c i) n) ≡ seated c h i
  seated-held h n e = ap (λ (k : ℕ). put c i (recount (row_in c i) k)) e ∙ sym (cond-false _ _ _ (ne_eqb (row_in c i).number 0 held))

-- so a filing of a head that no group has makes a new one, where there is a place and a number for it
module _ (c : Contents) (h : List ℕ) (i : ℕ) (unlike : first_with (has_head h) c.rows ≡ None) (free : free_place c.rows ≡ Some i) where
  free_at : FreeAt c (Some i)
  free_at = subst (FreeAt c) free (finds_free c)

  pub anew_place : i < length c.rows
  anew_place = free_at.0

  pub filed_anew : c.next < 4294967296 → (Ok c.next ≡ file_answer c (Ok h)) × (handed_out (put c i (fresh c.strip c.next h)) ≡ file_after c (Ok h))
  filed_anew l =
      let there : Ok i ≡ seat_for c h = sym (ap (seat c) unlike ∙ ap (taking c) free ∙ cond-true _ _ _ (lt-ltb c.next 4294967296 l)) in
      (ap (λ (k : ℕ). Ok k) (number_new c i free_at.1) ∙ ap (number_of c) there, seated_new c i free_at.1 h c.next refl ∙ ap (seated_at c h) there)
