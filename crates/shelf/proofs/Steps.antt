-- Every call keeps the invariant.
use Rattle.std.proofs.Common.{◌≡◌, ℕ, ◌+◌, ◌-◌, ◌<◌, ◌≤◌, ◌⊎◌, List, ◌∷◌, Some, None, Ok, Err, Option, Result, sym, refl, ap, ◌∙◌, subst, ⊎_elim, arith}
use Rattle.std.proofs.lemmas.Bool.{cases_lt}
use Rattle.wire.specs.declared.refusal.Fault.{Fault}
use Rattle.facts.specs.Head.{head_of}
use Rattle.shelf.specs.Rows.{Row}
use Rattle.shelf.specs.Contents.{Contents, row_in, put, blank, handed_out}
use Rattle.shelf.specs.Calls.{seat_for, number_at, number_of, seated, seated_at, file_answer, file_after, fresh, recount, place_of, lowered, lowered_at, release_at}
use Rattle.shelf.specs.Histories.{Filing, Event, History, head_in, Step}
use Rattle.shelf.specs.Histories.Event.{filed, released, counted, shown}
use Rattle.shelf.specs.Law.{filings, releases, FiledIn}
use Rattle.shelf.proofs.Fits.{fitting}
use Rattle.shelf.proofs.FiledKeeps.{again, anew}
use Rattle.shelf.proofs.Groups.{At, Stands, inside, place-stands, row_here, rows_but}
use Rattle.shelf.proofs.Invariant.{Inv, HeadOf}
use Rattle.shelf.proofs.ReleasedKeeps as release
use Rattle.shelf.proofs.Releases.{lowered-one, lowered-last}
use Rattle.shelf.proofs.Rooms.{made_fits}
use Rattle.shelf.proofs.Seats.{Joins, Takes, seat-is, number_new, number-held, seated_new, seated-held}

-- the invariant of a shelf after a history
abbrev pub InvOf : History → Contents → Type 0
InvOf h c = Inv (λ g. filings g h) (λ g. releases g h) (λ x g. FiledIn x g h) c.next (row_in c)

-- what a filing that is accepted did
pub record Taken (c : Contents) (from : Result (List ℕ) Fault) (g : ℕ) : Type 0 where
  pub head : List ℕ
  pub made : from ≡ Ok head
  pub place : ℕ
  pub seat : Joins c head place ⊎ Takes c head place
  pub number : g ≡ number_at c place
  pub after : file_after c from ≡ seated c head place

taken_at : (c : Contents) (h : List ℕ) (g : ℕ) (r : Result ℕ Fault) → seat_for c h ≡ r → Ok g ≡ number_of c r → Taken c (Ok h) g
taken_at c h g (Ok i) e f = record { head = h; made = refl; place = i; seat = seat-is c h i e; number = cc; after = ap (seated_at c h) e }
taken_at c h g (Err x) e f = let z : ◌≡◌ {A = ℕ} 0 1 = cc in absurd (omega arith)

pub taken : (c : Contents) (from : Result (List ℕ) Fault) (g : ℕ) → Ok g ≡ file_answer c from → Taken c from g
taken c (Ok h) g e = taken_at c h g (seat_for c h) refl e
taken c (Err x) g e = let z : ◌≡◌ {A = ℕ} 0 1 = cc in absurd (omega arith)

-- one that is refused did nothing
pub not_seated : (c : Contents) (h : List ℕ) (e : Fault) (r : Result ℕ Fault) → Err e ≡ number_of c r → seated_at c h r ≡ c
not_seated c h e (Ok i) f = let z : ◌≡◌ {A = ℕ} 0 1 = cc in absurd (omega arith)
not_seated c h e (Err x) f = refl

pub not_taken : (c : Contents) (from : Result (List ℕ) Fault) (e : Fault) → Err e ≡ file_answer c from → file_after c from ≡ c
not_taken c (Ok h) e f = not_seated c h e (seat_for c h) f
not_taken c (Err x) e f = refl

-- the head of an accepted filing is its store's
pub is-head : (c : Contents) (x : Filing) (hd : List ℕ) → head_in c x ≡ Ok hd → HeadOf x hd
is-head c x hd e =
    let from = head_of x.rows x.order x.features.at in
    let f = fitting c.strip from hd (made_fits c x.work from hd e).0 in
    record { is = f.is; short = f.short }

-- it joins a group
joined : (h : History) (c : Contents) (x : Filing) (hd : List ℕ) (g i : ℕ) → InvOf h c → HeadOf x hd → Joins c hd i → g ≡ number_at c i → InvOf (filed x (Ok g) ∷ h) (seated c hd i)
joined h c x hd g i v is s e =
    let held : (row_in c i).number ≡ 0 → ⊥ = λ z. omega (arith, s.held) in
    let num : (row_in c i).number ≡ g = number-held c i held ∙ sym e in
    let r : Row = recount (row_in c i) ((row_in c i).count + 1) in
    let here = row_here c i r s.place in
    subst (InvOf (filed x (Ok g) ∷ h)) (seated-held c i held hd _ refl)
    (again _ _ _ c.next (row_in c) (row_in (put c i r)) x hd i v is (rows_but c i r) g s.held num s.same (ap (λ (y : Row). y.number) here ∙ num) s.room (ap (λ (y : Row). y.count) here) (ap (λ (y : Row). y.head) here ∙ s.same))

-- or makes one
made_new : (h : History) (c : Contents) (x : Filing) (hd : List ℕ) (g i : ℕ) → InvOf h c → HeadOf x hd → Takes c hd i → g ≡ number_at c i → InvOf (filed x (Ok g) ∷ h) (seated c hd i)
made_new h c x hd g i v is s e =
    let new : g ≡ c.next = e ∙ sym (number_new c i s.vacant) in
    let r : Row = fresh c.strip c.next hd in
    let here = row_here c i r s.place in
    subst (InvOf (filed x (Ok g) ∷ h)) (seated_new c i s.vacant hd c.next refl)
    (subst (λ (k : ℕ). InvOf (filed x (Ok k) ∷ h) (handed_out (put c i r))) (sym new)
    (anew _ _ _ c.next (row_in c) (row_in (put c i r)) x hd i v is (rows_but c i r) s.number s.vacant (λ j p. s.unlike j (inside c j p) p) (ap (λ (y : Row). y.number) here) (ap (λ (y : Row). y.count) here) (ap (λ (y : Row). y.head) here)))

-- a release at the group's place
left : (h : History) (c : Contents) (u : Unit {0}) (g i : ℕ) → InvOf h c → At c g i → InvOf (released g (Ok u) ∷ h) (lowered c i)
left h c u g i v a = ⊎_elim several last (cases_lt 1 (row_in c i).count)
  where
    several : 1 < (row_in c i).count → InvOf (released g (Ok u) ∷ h) (lowered c i)
    several l =
        let r : Row = recount (row_in c i) ((row_in c i).count - 1) in
        let here = row_here c i r a.place in
        subst (InvOf (released g (Ok u) ∷ h)) (lowered-one c i _ l refl)
        (release.lowered _ _ _ c.next (row_in c) (row_in (put c i r)) g i v a.held a.number (rows_but c i r) (omega arith) (ap (λ (y : Row). y.number) here ∙ a.number) (omega (arith, ap (λ (y : Row). y.count) here)) (ap (λ (y : Row). y.head) here))

    last : (row_in c i).count ≤ 1 → InvOf (released g (Ok u) ∷ h) (lowered c i)
    last l =
        let here = row_here c i (blank c.strip) a.place in
        subst (InvOf (released g (Ok u) ∷ h)) (lowered-last c i l)
        (release.freed _ _ _ c.next (row_in c) (row_in (put c i (blank c.strip))) g i v a.held a.number (rows_but c i (blank c.strip)) l (ap (λ (y : Row). y.number) here))

released-at : (h : History) (c : Contents) (g : ℕ) (a : Result (Unit {0}) Fault) (o : Option ℕ) → InvOf h c → Stands c g o → a ≡ release_at o → InvOf (released g a ∷ h) (lowered_at c o)
released-at h c g (Ok u) (Some i) v s e = left h c u g i v s
released-at h c g (Ok u) None v s e = let z : ◌≡◌ {A = ℕ} 0 1 = cc in absurd (omega arith)
released-at h c g (Err x) (Some i) v s e = let z : ◌≡◌ {A = ℕ} 0 1 = cc in absurd (omega arith)
released-at h c g (Err x) None v s e = v

pub step : (h : History) (c : Contents) (e : Event) (d : Contents) → InvOf h c → Step c e d → InvOf (e ∷ h) d
step h c (filed x (Ok g)) d v s =
    let t = taken c (head_in c x) g s.0 in
    let is = is-head c x t.head t.made in
    subst (InvOf (filed x (Ok g) ∷ h)) (sym (s.1 ∙ t.after))
    (⊎_elim (λ j. joined h c x t.head g t.place v is j t.number) (λ j. made_new h c x t.head g t.place v is j t.number) t.seat)
step h c (filed x (Err e)) d v s = subst (InvOf (filed x (Err e) ∷ h)) (sym (s.1 ∙ not_taken c (head_in c x) e s.0)) v
step h c (released g a) d v s =
    subst (InvOf (released g a ∷ h)) (sym s.1) (released-at h c g a (place_of c g) v (place-stands c g) s.0)
step h c (counted g a) d v s = subst (InvOf (counted g a ∷ h)) (sym s.1) v
step h c (shown g out a by) d v s = subst (InvOf (shown g out a by ∷ h)) (sym s.2) v
