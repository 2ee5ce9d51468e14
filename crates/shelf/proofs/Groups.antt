-- The rows of a shelf after a change, and the places of its groups.
use Rattle.std.proofs.Common.{◌≡◌, ℕ, ◌<◌, ◌≤◌, Bool, true, false, cond, eqb, length, Some, None, Option, refl, ap, ⊎_elim, arith}
use Rattle.std.proofs.lemmas.List.{get_or_past, get_or-set_same, get_or-set_other}
use Rattle.std.proofs.lemmas.Bool.{both_ways, cases_lt, eqb-true, eqb-false, eq-eqb}
use Rattle.std.specs.Option as options
use Rattle.shelf.specs.Rows.{Row}
use Rattle.shelf.specs.Contents.{Contents, blank, row_in, put}
use Rattle.shelf.specs.Calls.{first_with, is_numbered, place_of}
use Rattle.shelf.proofs.Firsts.{Found, first_found}
use Rattle.shelf.proofs.Invariant.{But, but}

-- a group stands at one of the strips
pub inside : (c : Contents) (j : ℕ) → 1 ≤ (row_in c j).number → j < length c.rows
inside c j p =
    ⊎_elim (λ l. l) (λ l. absurd (omega (arith, ap (λ (r : Row). r.number) (get_or_past c.rows j (blank 0) l)))) (cases_lt j (length c.rows))

pub row_here : (c : Contents) (i : ℕ) (r : Row) → i < length c.rows → row_in (put c i r) i ≡ r
row_here c i r l = get_or-set_same c.rows i r (blank 0) l

pub rows_but : (c : Contents) (i : ℕ) (r : Row) → But (row_in c) i (row_in (put c i r))
rows_but c i r = but (row_in c) i (row_in (put c i r)) (λ j e. get_or-set_other c.rows i j r (blank 0) e)

-- what a place of a group is
pub record At (c : Contents) (g i : ℕ) : Type 0 where
  pub place : i < length c.rows
  pub number : (row_in c i).number ≡ g
  pub held : 1 ≤ (row_in c i).number

abbrev pub Stands : Contents → ℕ → Option ℕ → Type 0
Stands c g o = options.MatchOption o ((j : ℕ) → 1 ≤ (row_in c j).number → (row_in c j).number ≡ g → ⊥) (At c g)

numbered-stands : (c : Contents) (g : ℕ) (o : Option ℕ) → (g ≡ 0 → ⊥) → Found (is_numbered g) c.rows (blank 0) o → Stands c g o
numbered-stands c g None n f = λ j p e. both_ways (eqb (row_in c j).number g) (f j (inside c j p)) (eq-eqb (row_in c j).number g e)
numbered-stands c g (Some i) n f =
    let e = eqb-true (row_in c i).number g f.1 in
    record { place = f.0; number = e; held = omega (arith, n) }

stands : (c : Contents) (g : ℕ) (b : Bool) → eqb g 0 ≡ b → Stands c g (cond b None (first_with (is_numbered g) c.rows))
stands c g true e = λ j p q. omega (arith, eqb-true g 0 e)
stands c g false e = numbered-stands c g (first_with (is_numbered g) c.rows) (eqb-false g 0 e) (first_found (is_numbered g) c.rows (blank 0))

pub place-stands : (c : Contents) (g : ℕ) → Stands c g (place_of c g)
place-stands c g = stands c g (eqb g 0) refl
