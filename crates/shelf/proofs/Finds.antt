-- What a look-up over the places finds.
use Rattle.std.proofs.Common.{◌≡◌, ℕ, ◌+◌, ◌<◌, Bool, true, false, eqb, length, IfSome, IsSomeAnd, Some, None, Option, refl, sym, ap, ◌∙◌, subst, ⊎_elim, arith}
use Rattle.std.proofs.lemmas.Bool.{cases_eq, cases_lt, cond-true, cond-false, eq-eqb, ne_eqb, lt-ltb, le-ltb}
use Rattle.std.proofs.iter.Yields.{nat_range_steps}
use Rattle.std.proofs.iter.runs.Sources.{range_runs}
use Rattle.std.specs.Option as options
use Rattle.std.specs.Option.{option_map}
use Rattle.std.specs.Fn.{Called}
use Rattle.std.specs.Iterator.Runs.{SomeRun, AllItemsGive, IsFirstToGive}
use denote.Param.Members.{Mut}
use Rattle.shelf.specs.declared.shelf.Held.{Held}
use Rattle.shelf.specs.Rows.{Row}
use Rattle.shelf.specs.Contents.{Contents, row_in, blank}
use Rattle.shelf.specs.Calls.{first_with, is_numbered, place_of}
use Rattle.shelf.specs.Stands.{PassesAt, FindsGroup, has_number}
use Rattle.shelf.proofs.Firsts.{first_here, first_none, first_same}

-- the item at a place of a run
item : (P : ℕ → Type 0) (o : Option ℕ) (a j : ℕ) → option_map (λ y. y) o ≡ Some a → a ≡ j → IfSome o P → P j
item P None a j e q h = let z : ◌≡◌ {A = ℕ} 0 1 = cc in absurd (omega arith)
item P (Some x) a j e q h = let same : x ≡ j = cc in subst P same h

if_some : (P : ℕ → Type 0) (o : Option ℕ) → IsSomeAnd o P → IfSome o P
if_some P None h = absurd h
if_some P (Some x) h = h

module _ {F : Type 0} {g : Mut F (ℕ × Unit {0}) (Option Held)} (c : Contents) (p : Row → Bool) (n : ℕ) (f : F) (long : length c.rows ≡ n) (told : (k : ℕ) (r : Option Held) (q : F) → Called g f (k, tt) r q → (q ≡ f) × PassesAt c p k r) where
  keeps : (a : ℕ × Unit {0}) (r : Option Held) (q : F) → Called g f a r q → q ≡ f
  keeps (k, tt) r q e = (told k r q e).0

  abbrev gives : Option Held → ℕ → Type 0
  gives r k = Called g f (k, tt) r f

  -- the first place that a row passes at, with the group there
  pub finds : (o : Option Held) → SomeRun nat_range_steps (record { start = 0; end = n }) (λ u. options.MatchOption o ((u.whole ≡ true) × AllItemsGive u g f None) (λ y. (i : ℕ) × (i < u.len) × (u.len ≡ i + 1) × IsFirstToGive u g f (Some y) None i)) → FindsGroup c (first_with p c.rows) o
  finds None run =
      let u = run.0 in
      let up = range_runs u u.seen in
      let at0 : u.from.start ≡ 0 = ap (λ r. r.start) run.1 in
      let at1 : u.from.end ≡ n = ap (λ r. r.end) run.1 in
      let every : (j : ℕ) → j < n → p (row_in c j) ≡ false = λ j l. (told j None f (item (gives None) (u.at j) (u.from.start + j) j (up.3 j (omega (arith, up.1 run.2.0))) (omega (arith, at0)) (run.2.1 keeps j))).1 in
      first_none p c.rows (blank 0) (λ j l. every j (omega (arith, l, long)))
  finds (Some h) run =
      let u = run.0 in
      let up = range_runs u u.seen in
      let at0 : u.from.start ≡ 0 = ap (λ r. r.start) run.1 in
      let at1 : u.from.end ≡ n = ap (λ r. r.end) run.1 in
      let i = run.2.0 in
      let first = run.2.3 keeps in
      let here = (told i (Some h) f (item (gives (Some h)) (u.at i) (u.from.start + i) i (up.3 i run.2.1) (omega (arith, at0)) (if_some (gives (Some h)) (u.at i) first.0))).1 in
      let before : (j : ℕ) → j < i → p (row_in c j) ≡ false = λ j l. (told j None f (item (gives None) (u.at j) (u.from.start + j) j (up.3 j (omega (arith, l, run.2.1))) (omega (arith, at0)) (if_some (gives None) (u.at j) (first.1 j l)))).1 in
      (first_here p c.rows (blank 0) i (omega (arith, long, up.0, at0, at1, run.2.1)) before here.0 ∙ ap (λ (k : ℕ). Some k) (sym here.1), here.2)

-- the place of a number is that of its group
pub place_numbered : (c : Contents) (g : ℕ) → first_with (has_number g) c.rows ≡ place_of c g
place_numbered c g = ⊎_elim zeroth other (cases_eq g 0)
  where
    none : (r : Row) → g ≡ 0 → has_number g r ≡ false
    none r e =
        ⊎_elim
        (λ l. rw (lt-ltb 0 r.number l) (ne_eqb r.number g (λ q. omega arith)))
        (λ l. rw (le-ltb 0 r.number l) refl)
        (cases_lt 0 r.number)

    zeroth : g ≡ 0 → first_with (has_number g) c.rows ≡ place_of c g
    zeroth e =
        first_none (has_number g) c.rows (blank 0) (λ j l. none (row_in c j) e) ∙ sym (cond-true (eqb g 0) None (first_with (is_numbered g) c.rows) (eq-eqb g 0 e))

    same : (r : Row) → (g ≡ 0 → ⊥) → has_number g r ≡ is_numbered g r
    same r n =
        ⊎_elim
        (λ l. rw (lt-ltb 0 r.number l) refl)
        (λ l. rw (le-ltb 0 r.number l) (sym (ne_eqb r.number g (λ q. n (omega arith)))))
        (cases_lt 0 r.number)

    other : (g ≡ 0 → ⊥) → first_with (has_number g) c.rows ≡ place_of c g
    other n =
        first_same (has_number g) (is_numbered g) c.rows c.rows (blank 0) (blank 0) refl (λ j l. same (row_in c j) n)
        ∙ sym (cond-false (eqb g 0) None (first_with (is_numbered g) c.rows) (ne_eqb g 0 n))
