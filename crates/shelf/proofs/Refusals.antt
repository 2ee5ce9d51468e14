-- Why a filing is refused.
use Rattle.std.proofs.Common.{◌≡◌, ℕ, ◌-◌, ◌<◌, ◌≤◌, min, Bool, true, false, cond, leb, ltb, List, length, Some, None, Ok, Err, Option, Result, sym, refl, ap, ◌∙◌, subst, inl, inr, ⊎_elim, arith}
use Rattle.std.proofs.lemmas.Slice.Eq.{bytes_eq-Decides}
use Rattle.std.proofs.lemmas.Bool.{and_parts, and_cases, both_ways, ltb-true, ltb-false, lt-ltb, leb-false}
use Rattle.std.specs.Str.{bytes_eq}
use Rattle.wire.specs.Faults.{state_fault}
use Rattle.wire.specs.declared.refusal.Fault.{Fault}
use Rattle.facts.specs.Head.{head_of}
use Rattle.facts.specs.Laws.{HeadsSpeak}
use Rattle.head_laws.proofs.Faults.{head_fault}
use Rattle.shelf.specs.Contents.{Contents, blank, row_in}
use Rattle.shelf.specs.Calls.{refused, if_room, first_with, has_head, free_place, FreeAt, joining, taking, seat, number_of, file_answer, head_for}
use Rattle.shelf.specs.Histories.{Filing, History, head_in}
use Rattle.shelf.specs.Law.{filings, releases, FiledIn, SameAs, NewIn, ManyHeld, WhyRefused}
use Rattle.shelf.specs.Law.WhyRefused.{no_head, no_room, count_full, no_free_strip, numbers_used_up}
use Rattle.shelf.proofs.Firsts.{Found, first_found}
use Rattle.shelf.proofs.Groups.{inside}
use Rattle.shelf.proofs.Invariant.{HeadOf, cases_zero}
use Rattle.shelf.proofs.Seats.{finds_free}
use Rattle.shelf.proofs.Steps.{InvOf}

not_err : {X V : Type 0} (e : Fault) (v : V) → Err e ≡ Ok v → X
not_err e v h = let z : ◌≡◌ {A = ℕ} 0 1 = cc in absurd (omega arith)

-- every strip is a group's
many_held : (h : History) (c : Contents) → InvOf h c → ((j : ℕ) → j < length c.rows → (row_in c j).number ≡ 0 → ⊥) → ManyHeld (length c.rows) h
many_held h c v none =
    record {
      group = λ i. (row_in c i).number;
      held = λ i l. let p = some i l in omega (arith, v.shown i p, v.counts i p);
      distinct = λ i j l k e. v.only i j (some i l) e;
    }
  where
    some : (i : ℕ) → i < length c.rows → 1 ≤ (row_in c i).number
    some i l = ⊎_elim (λ e. absurd (none i l e)) (λ e. e) (cases_zero (row_in c i).number)

module _ (speak : HeadsSpeak) (h : History) (c : Contents) (x : Filing) (hd : List ℕ) (v : InvOf h c) (is : HeadOf x hd) where
  -- the group that keeps the head is that of stores that answer alike
  same_as : (i : ℕ) → 1 ≤ (row_in c i).number → (row_in c i).head ≡ hd → SameAs x (row_in c i).number h
  same_as i p e y f =
      (speak x.rows x.order x.features hd is).alike y.rows y.order y.features (row_in c i).head (v.heads i y p f) (sym e)

  -- and where no group keeps it, no held one is
  new_in : ((j : ℕ) → 1 ≤ (row_in c j).number → (row_in c j).head ≡ hd → ⊥) → NewIn x h
  new_in unlike y g f p same =
      let i = v.held g p in
      let hy : HeadOf y (row_in c i.0).head = v.heads i.0 y i.2 (subst (λ (u : ℕ). FiledIn y u h) (sym i.1) f) in
      unlike i.0 i.2 (sym ((speak x.rows x.order x.features hd is).equal y.rows y.order y.features (row_in c i.0).head hy same))

  abbrev Why : Fault → Type 0
  Why e = WhyRefused c.strip (length c.rows) h x e

  -- by the place that was looked for
  joining_why : (e : Fault) (i : ℕ) → 1 ≤ (row_in c i).number → (row_in c i).head ≡ hd → Err e ≡ number_of c (joining c i) → Why e
  joining_why e i p same q = by (ltb (row_in c i).count 4294967295) refl q
    where
      by : (b : Bool) → ltb (row_in c i).count 4294967295 ≡ b → Err e ≡ number_of c (cond b (Ok i) (refused 35)) → Why e
      by true t w = not_err e _ w
      by false t w =
          let full : filings (row_in c i).number h - releases (row_in c i).number h ≡ 4294967295 = omega (arith, v.shown i p, v.most i p, ltb-false (row_in c i).count 4294967295 t) in
          count_full (cc) (row_in c i).number (same_as i p same) full

  taking_why : (e : Fault) (o : Option ℕ) → ((j : ℕ) → 1 ≤ (row_in c j).number → (row_in c j).head ≡ hd → ⊥) → FreeAt c o → Err e ≡ number_of c (taking c o) → Why e
  taking_why e None unlike f q = no_free_strip (cc) (new_in unlike) (many_held h c v f)
  taking_why e (Some i) unlike f q = by (ltb c.next 4294967296) refl q
    where
      by : (b : Bool) → ltb c.next 4294967296 ≡ b → Err e ≡ number_of c (cond b (Ok i) (refused 36)) → Why e
      by true t w = not_err e _ w
      by false t w = numbers_used_up (cc) (new_in unlike) (v.used (ltb-false c.next 4294967296 t))

  seat_why : (e : Fault) (o : Option ℕ) → Found (has_head hd) c.rows (blank 0) o → Err e ≡ number_of c (seat c o) → Why e
  seat_why e (Some i) f q =
      let t = and_parts (ltb 0 (row_in c i).number) (bytes_eq (row_in c i).head hd) f.1 in
      joining_why e i (ltb-true 0 (row_in c i).number t.0) ((bytes_eq-Decides (row_in c i).head hd).0 t.1) q
  seat_why e None f q = taking_why e (free_place c.rows) unlike (finds_free c) q
    where
      unlike : (j : ℕ) → 1 ≤ (row_in c j).number → (row_in c j).head ≡ hd → ⊥
      unlike j p same =
          ⊎_elim
          (λ t. both_ways (ltb 0 (row_in c j).number) t (lt-ltb 0 (row_in c j).number p))
          (λ t. both_ways (bytes_eq (row_in c j).head hd) t ((bytes_eq-Decides (row_in c j).head hd).1 same))
          (and_cases (ltb 0 (row_in c j).number) (bytes_eq (row_in c j).head hd) (f j (inside c j p)))

  placed_why : (e : Fault) → Err e ≡ file_answer c (Ok hd) → Why e
  placed_why e q = seat_why e (first_with (has_head hd) c.rows) (first_found (has_head hd) c.rows (blank 0)) q

-- by the head, if there is one
made_why : HeadsSpeak → (h : History) (c : Contents) (x : Filing) (e : Fault) (r : Result (List ℕ) Fault) → InvOf h c → c.strip ≤ 65536 → head_of x.rows x.order x.features.at ≡ r → Err e ≡ file_answer c (head_for c x.work r) → WhyRefused c.strip (length c.rows) h x e
made_why speak h c x e (Err y) v short is q = let same : y ≡ e = cc in let head = is ∙ ap (λ (z : Fault). Err z) same in no_head head (head_fault x.rows x.order x.features.at e head)
made_why speak h c x e (Ok hd) v short is q = by (ltb (min c.strip 16777216) (length hd)) (leb c.strip x.work) refl refl q
  where
    by : (a b : Bool) → ltb (min c.strip 16777216) (length hd) ≡ a → leb c.strip x.work ≡ b → Err e ≡ file_answer c (if_room b (cond a (Err (state_fault 32 256)) (Ok hd))) → WhyRefused c.strip (length c.rows) h x e
    by true b s t w = no_room (cc) hd is (inl (omega (arith, short, ltb-true (min c.strip 16777216) (length hd) s)))
    by false false s t w = no_room (cc) hd is (inr (omega (arith, leb-false c.strip x.work t)))
    by false true s t w =
        placed_why speak h c x hd v (record { is = is; short = omega (arith, short, ltb-false (min c.strip 16777216) (length hd) s) }) e w

pub refused_why : HeadsSpeak → (h : History) (c : Contents) (x : Filing) (e : Fault) → InvOf h c → c.strip ≤ 65536 → Err e ≡ file_answer c (head_in c x) → WhyRefused c.strip (length c.rows) h x e
refused_why speak h c x e v short q = made_why speak h c x e (head_of x.rows x.order x.features.at) v short refl q
