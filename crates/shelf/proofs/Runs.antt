-- The invariant holds after every history.
use Rattle.std.proofs.Common.{◌≡◌, ℕ, ◌+◌, ◌-◌, ◌≤◌, Bool, true, false, cond, ◌&&◌, leb, ltb, List, [], length, replicate, Some, None, Ok, Err, Option, Result, sym, refl, ap, subst, ⊎_elim, arith}
use Rattle.std.proofs.lemmas.List.{get_or_past, get_or-replicate, length-replicate, length-set}
use Rattle.std.proofs.lemmas.Bool.{and_parts, cases_Bool, cases_lt, leb-true}
use Rattle.wire.specs.declared.refusal.Fault.{Fault}
use Rattle.shelf.specs.Rows.{Row}
use Rattle.shelf.specs.Contents.{Contents, blank, row_in, put, handed_out}
use Rattle.shelf.specs.Calls.{in_bounds, strips_in, empty, without, opening, is_numbered, fresh, recount, seat_for, seated_at, file_after, lowered_at, place_of}
use Rattle.shelf.specs.Histories.{Event, History, Step, Ran, head_in}
use Rattle.shelf.specs.Histories.Event.{filed, released, counted, shown}
use Rattle.shelf.specs.Histories.Ran.{opened, went}
use Rattle.shelf.proofs.Steps.{InvOf, step}

-- it does where there is no group
bare : (d : Contents) → 1 ≤ d.next → d.next ≤ 4294967295 → ((j : ℕ) → (row_in d j).number ≡ 0) → InvOf [] d
bare d l few none =
    record {
      first = l;
      some = λ x g f. absurd f;
      fresh = λ g p. absurd (omega arith);
      least = λ g. omega arith;
      counts = λ j p. absurd (omega (arith, none j));
      shown = λ j p. absurd (omega (arith, none j));
      held = λ g p. absurd (omega arith);
      only = λ i j p q. absurd (omega (arith, none i));
      apart = λ i j p q z. absurd (omega (arith, none i));
      heads = λ j x p f. absurd f;
      most = λ j p. absurd (omega (arith, none j));
      used = λ p. absurd (omega arith);
    }

all_blank : (strip first room j : ℕ) → (row_in (empty strip first room) j).number ≡ 0
all_blank strip first room j =
    ⊎_elim
    (λ l. ap (λ (r : Row). r.number) (get_or-replicate n j (blank strip) (blank 0) l))
    (λ l. ap (λ (r : Row). r.number) (get_or_past (replicate n (blank strip)) j (blank 0) (omega (arith, length-replicate {A = Row} n (blank strip)))))
    (cases_lt j n)
  where
    n : ℕ
    n = strips_in room strip

-- as there is none on a shelf that was just opened
start : (strip first : ℕ) (bytes : List ℕ) → first ≤ 4294967295 → InvOf [] (opening strip first bytes)
start strip first bytes few = ⊎_elim inside out (cases_Bool (in_bounds strip first (length bytes)))
  where
    inside : in_bounds strip first (length bytes) ≡ true → InvOf [] (opening strip first bytes)
    inside t =
        let b = (and_parts (leb 1 first) (leb strip (length bytes)) (and_parts (leb 5 strip && leb strip 65536) (leb 1 first && leb strip (length bytes)) t).1).0 in
        rw t (bare (empty strip first (length bytes)) (leb-true 1 first b) few (all_blank strip first (length bytes)))

    out : in_bounds strip first (length bytes) ≡ false → InvOf [] (opening strip first bytes)
    out t = rw t (bare (without bytes) (omega arith) (omega arith) (λ j. refl))

-- by induction over the run
pub inv : (h : History) (c : Contents) → Ran h c → InvOf h c
inv h c (opened strip first bytes d few e) = subst (InvOf []) (sym e) (start strip first bytes few)
inv h c (went k b e d r s) = step k b e c (inv k b r) s

-- the strips stay as many and as long as they were
pub record Same (c d : Contents) : Type 0 where
  pub strip : d.strip ≡ c.strip
  pub strips : length d.rows ≡ length c.rows

same_put : (c : Contents) (i : ℕ) (r : Row) → Same c (put c i r)
same_put c i r = record { strip = refl; strips = length-set c.rows i r }

same_seated : (c : Contents) (h : List ℕ) (r : Result ℕ Fault) → Same c (seated_at c h r)
same_seated c h (Ok i) = by (is_numbered 0 (row_in c i))
  where
    by : (b : Bool) → Same c (cond b (handed_out (put c i (fresh c.strip c.next h))) (put c i (recount (row_in c i) ((row_in c i).count + 1))))
    by true = record { strip = refl; strips = length-set c.rows i (fresh c.strip c.next h) }
    by false = same_put c i (recount (row_in c i) ((row_in c i).count + 1))
same_seated c h (Err e) = record { strip = refl; strips = refl }

same_filed : (c : Contents) (r : Result (List ℕ) Fault) → Same c (file_after c r)
same_filed c (Ok h) = same_seated c h (seat_for c h)
same_filed c (Err e) = record { strip = refl; strips = refl }

same_lowered : (c : Contents) (o : Option ℕ) → Same c (lowered_at c o)
same_lowered c None = record { strip = refl; strips = refl }
same_lowered c (Some i) = by (ltb 1 (row_in c i).count)
  where
    by : (b : Bool) → Same c (cond b (put c i (recount (row_in c i) ((row_in c i).count - 1))) (put c i (blank c.strip)))
    by true = same_put c i (recount (row_in c i) ((row_in c i).count - 1))
    by false = same_put c i (blank c.strip)

pub same : (c : Contents) (e : Event) (d : Contents) → Step c e d → Same c d
same c (filed x a) d s = subst (Same c) (sym s.1) (same_filed c (head_in c x))
same c (released g a) d s = subst (Same c) (sym s.1) (same_lowered c (place_of c g))
same c (counted g a) d s = subst (Same c) (sym s.1) (record { strip = refl; strips = refl })
same c (shown g out a by) d s = subst (Same c) (sym s.2) (record { strip = refl; strips = refl })

-- and a strip is short
long_opened : (strip first : ℕ) (bytes : List ℕ) → (opening strip first bytes).strip ≤ 65536
long_opened strip first bytes = ⊎_elim inside out (cases_Bool (in_bounds strip first (length bytes)))
  where
    inside : in_bounds strip first (length bytes) ≡ true → (opening strip first bytes).strip ≤ 65536
    inside t =
        let b = (and_parts (leb 5 strip) (leb strip 65536) (and_parts (leb 5 strip && leb strip 65536) (leb 1 first && leb strip (length bytes)) t).0).1 in
        rw t (leb-true strip 65536 b)

    out : in_bounds strip first (length bytes) ≡ false → (opening strip first bytes).strip ≤ 65536
    out t = rw t (omega arith)

pub strip_short : (h : History) (c : Contents) → Ran h c → c.strip ≤ 65536
strip_short h c (opened strip first bytes d few e) = subst (λ (k : Contents). k.strip ≤ 65536) (sym e) (long_opened strip first bytes)
strip_short h c (went k b e d r s) = omega (arith, (same b e c s).strip, strip_short k b r)
