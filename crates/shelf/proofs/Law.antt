-- The law holds of every history.
use Rattle.std.proofs.Common.{◌≡◌, ℕ, ◌+◌, ◌-◌, ◌≤◌, true, false, ltb, List, ◌∷◌, length, take, drop, Some, None, Ok, Err, Option, Result, sym, refl, ap, ◌∙◌, subst, inl, inr, ⊎_elim, arith}
use Rattle.std.proofs.lemmas.List.{take_at}
use Rattle.std.proofs.lemmas.Bool.{cases_Bool, cases_lt, cond-true, cond-false, lt-ltb, le-ltb}
use Rattle.wire.specs.declared.refusal.Fault.{Fault}
use Rattle.facts.specs.Head.{length_of, ahead}
use Rattle.facts.specs.Laws.{HeadsSpeak}
use Rattle.shelf.specs.Contents.{Contents, row_in}
use Rattle.shelf.specs.Calls.{refused, file_answer, place_of, count_at, release_at, show_at}
use Rattle.shelf.specs.Histories.{Filing, Event, History, head_in, Step, Ran}
use Rattle.shelf.specs.Histories.Event.{filed, released, counted, shown}
use Rattle.shelf.specs.Histories.Ran.{opened, went}
use Rattle.shelf.specs.Law.{filings, releases, HeldIn, UnheldIn, FiledIn, SameFacts, SpeaksForAll, Files, Says, Lawful, Holding, Lacking, Keeps, Goes, Continues}
use Rattle.shelf.proofs.Groups.{At, Stands, place-stands}
use Rattle.shelf.proofs.Invariant.{HeadOf, one_same}
use Rattle.shelf.proofs.Refusals.{refused_why}
use Rattle.shelf.proofs.Runs.{inv, same, strip_short}
use Rattle.shelf.proofs.Seats.{Joins, Takes, number_new, number-held}
use Rattle.shelf.proofs.Steps.{InvOf, Taken, taken, step}

-- a number that a row has is held, by the row's count
pub holding : (h : History) (c : Contents) (g i : ℕ) → InvOf h c → At c g i → HeldIn g h × ((row_in c i).count ≡ filings g h - releases g h)
holding h c g i v a =
    let s = subst (λ (u : ℕ). (row_in c i).count + releases u h ≡ filings u h) a.number (v.shown i a.held) in
    (omega (arith, s, v.counts i a.held), omega (arith, s))

-- and one that no row has is not
pub lacking : (h : History) (c : Contents) (g : ℕ) → InvOf h c → Stands c g None → UnheldIn g h
lacking h c g v none =
    ⊎_elim (λ e. let x = v.held g e in absurd (none x.0 x.2 x.1)) (λ e. e) (cases_lt (releases g h) (filings g h))

module _ (speak : HeadsSpeak) where
  -- two filings are of one group exactly if the heads are one
  same_facts : (h : History) (c : Contents) → InvOf h c → SameFacts h
  same_facts h c v x y g k a b p q =
      let i = v.held g p in
      let j = v.held k q in
      let hx : HeadOf x (row_in c i.0).head = v.heads i.0 x i.2 (subst (λ (u : ℕ). FiledIn x u h) (sym i.1) a) in
      let hy : HeadOf y (row_in c j.0).head = v.heads j.0 y j.2 (subst (λ (u : ℕ). FiledIn y u h) (sym j.1) b) in
      let says = speak x.rows x.order x.features (row_in c i.0).head hx in (
        (λ e. says.alike y.rows y.order y.features (row_in c j.0).head hy (ap (λ (u : ℕ). (row_in c u).head) (v.only i.0 j.0 i.2 (i.1 ∙ e ∙ sym j.1)))),
        (λ e. sym i.1 ∙ ap (λ (u : ℕ). (row_in c u).number) (v.apart i.0 j.0 i.2 j.2 (says.equal y.rows y.order y.features (row_in c j.0).head hy e)) ∙ j.1),
      )

  -- the head of a group speaks for what was filed into it
  speaks : (h : History) (c : Contents) (g i : ℕ) → InvOf h c → At c g i → SpeaksForAll (row_in c i).head g h
  speaks h c g i v a x f =
      let hd = (row_in c i).head in
      let is : (z : Filing) → FiledIn z g h → HeadOf z hd = λ z w. v.heads i z a.held (subst (λ (u : ℕ). FiledIn z u h) (sym a.number) w) in (
        speak x.rows x.order x.features hd (is x f),
        (λ y w q. let to = speak y.rows y.order y.features hd (is y w) in to.answers q ∙ to.alike x.rows x.order x.features hd (is x f) refl q),
      )

  -- what is answered by the place that a group has
  released_says : (h : History) (c : Contents) (g : ℕ) (a : Result (Unit {0}) Fault) (o : Option ℕ) → InvOf h c → Stands c g o → a ≡ release_at o → Says c.strip (length c.rows) h (released g a)
  released_says h c g a (Some i) v s e = subst (λ (r : Result (Unit {0}) Fault). Says c.strip (length c.rows) h (released g r)) (sym e) (holding h c g i v s).0
  released_says h c g a None v s e = subst (λ (r : Result (Unit {0}) Fault). Says c.strip (length c.rows) h (released g r)) (sym e) (refl, lacking h c g v s)

  counted_says : (h : History) (c : Contents) (g : ℕ) (a : Result ℕ Fault) (o : Option ℕ) → InvOf h c → Stands c g o → a ≡ count_at c o → Says c.strip (length c.rows) h (counted g a)
  counted_says h c g a (Some i) v s e = subst (λ (r : Result ℕ Fault). Says c.strip (length c.rows) h (counted g r)) (sym e) (holding h c g i v s)
  counted_says h c g a None v s e = subst (λ (r : Result ℕ Fault). Says c.strip (length c.rows) h (counted g r)) (sym e) (refl, lacking h c g v s)

  shown_says : (h : History) (c : Contents) (g : ℕ) (out by : List ℕ) (a : Result ℕ Fault) (o : Option ℕ) → InvOf h c → Stands c g o → a ≡ length_of (show_at c (length out) o) → by ≡ ahead (show_at c (length out) o) out → Says c.strip (length c.rows) h (shown g out a by)
  shown_says h c g out by a None v s e f =
      subst (λ (r : Result ℕ Fault). Says c.strip (length c.rows) h (shown g out r by)) (sym e) (inl (refl, lacking h c g v s))
  shown_says h c g out by a (Some i) v s e f = ⊎_elim long fits (cases_Bool (ltb (length out) (length (row_in c i).head)))
    where
      hd : List ℕ
      hd = (row_in c i).head

      long : ltb (length out) (length hd) ≡ true → Says c.strip (length c.rows) h (shown g out a by)
      long t =
          subst (λ (r : Result ℕ Fault). Says c.strip (length c.rows) h (shown g out r by)) (sym (e ∙ ap length_of (cond-true (ltb (length out) (length hd)) (refused 32) (Ok hd) t)))
          (inr (refl, (holding h c g i v s).0))

      fits : ltb (length out) (length hd) ≡ false → Says c.strip (length c.rows) h (shown g out a by)
      fits t =
          let whole = cond-false (ltb (length out) (length hd)) (refused 32) (Ok hd) t in
          let front : take (length hd) by ≡ hd = ap (take (length hd)) (f ∙ ap (λ (r : Result (List ℕ) Fault). ahead r out) whole) ∙ take_at hd (drop (length hd) out) (length hd) refl in
          subst (λ (r : Result ℕ Fault). Says c.strip (length c.rows) h (shown g out r by)) (sym (e ∙ ap length_of whole))
          ((holding h c g i v s).0, subst (λ (b : List ℕ). SpeaksForAll b g h) (sym front) (speaks h c g i v s))

  -- a filing joins a group that is held, or takes a number above all before
  filed_says : (h : History) (c : Contents) (x : Filing) (g : ℕ) → InvOf h c → Ok g ≡ file_answer c (head_in c x) → Files h x g
  filed_says h c x g v e = ⊎_elim joins takes t.seat
    where
      t : Taken c (head_in c x) g
      t = taken c (head_in c x) g e

      joins : Joins c t.head t.place → Files h x g
      joins j =
          let num : (row_in c t.place).number ≡ g = number-held c t.place (λ z. omega (arith, j.held)) ∙ sym t.number in
          let held = (holding h c g t.place v (record { place = j.place; number = num; held = j.held })).0 in
          record { holds = omega (arith, held); once = λ p. held; rises = λ z k p. absurd (omega (arith, held)) }

      takes : Takes c t.head t.place → Files h x g
      takes j =
          let new : g ≡ c.next = t.number ∙ sym (number_new c t.place j.vacant) in
          record { holds = omega (arith, v.least g, one_same g g refl); once = λ p. absurd (omega (arith, (v.fresh g p).1)); rises = λ z k p. omega (arith, (v.fresh k p).1) }

  says : (h : History) (c : Contents) (e : Event) (d : Contents) → c.strip ≤ 65536 → InvOf h c → Step c e d → Says c.strip (length c.rows) h e
  says h c (filed x (Ok g)) d short v s = filed_says h c x g v s.0
  says h c (filed x (Err e)) d short v s = refused_why speak h c x e v short s.0
  says h c (released g a) d short v s = released_says h c g a (place_of c g) v (place-stands c g) s.0
  says h c (counted g a) d short v s = counted_says h c g a (place_of c g) v (place-stands c g) s.0
  says h c (shown g out a by) d short v s = shown_says h c g out by a (place_of c g) v (place-stands c g) s.0 s.1

  lawful : (h : History) (c : Contents) → Ran h c → Lawful c.strip (length c.rows) h
  lawful h c (opened strip first bytes d few e) = tt
  lawful h c (went k b e d r s) =
      let alike = same b e c s in
      subst (λ (z : ℕ). Lawful z (length c.rows) (e ∷ k)) (sym alike.strip)
      (subst (λ (n : ℕ). Lawful b.strip n (e ∷ k)) (sym alike.strips)
      (says k b e c (strip_short k b r) (inv k b r) s, same_facts (e ∷ k) c (step k b e c (inv k b r) s), lawful k b r))

  -- what the shelf answers now
  stands-held : (h : History) (c : Contents) (g : ℕ) (o : Option ℕ) → InvOf h c → HeldIn g h → Stands c g o → (i : ℕ) × (o ≡ Some i) × At c g i
  stands-held h c g (Some i) v p s = (i, refl, s)
  stands-held h c g None v p s = absurd (omega (arith, lacking h c g v s))

  stands_lacking : (h : History) (c : Contents) (g : ℕ) (o : Option ℕ) → InvOf h c → UnheldIn g h → Stands c g o → o ≡ None
  stands_lacking h c g (Some i) v p s = absurd (omega (arith, (holding h c g i v s).0))
  stands_lacking h c g None v p s = refl

  keeps : (h : History) (c : Contents) → InvOf h c → Keeps h c
  keeps h c v = record { held = held; unheld = unheld }
    where
      held : (g : ℕ) → HeldIn g h → Holding h c g
      held g p =
          let z = stands-held h c g (place_of c g) v p (place-stands c g) in
          let hd : List ℕ = (row_in c z.0).head in
          record {
            head = hd;
            count = ap (count_at c) z.1 ∙ ap (λ (n : ℕ). Ok n) (holding h c g z.0 v z.2).1;
            release = ap release_at z.1;
            show = λ room l. ap (show_at c room) z.1 ∙ cond-false (ltb room (length hd)) (refused 32) (Ok hd) (le-ltb room (length hd) l);
            no_room = λ room l. ap (show_at c room) z.1 ∙ cond-true (ltb room (length hd)) (refused 32) (Ok hd) (lt-ltb room (length hd) l);
            speaks = speaks h c g z.0 v z.2;
          }

      unheld : (g : ℕ) → UnheldIn g h → Lacking c g
      unheld g p =
          let e = stands_lacking h c g (place_of c g) v p (place-stands c g) in
          record { count = ap (count_at c) e; release = ap release_at e; show = λ room. ap (show_at c room) e }

  -- the law, after every history
  pub goes : (h : History) (c : Contents) → Ran h c → Goes h c
  goes h c r = record { ran = r; lawful = lawful h c r; same = same_facts h c (inv h c r); keeps = keeps h c (inv h c r) }

  -- so a call continues every history
  pub continues : (c : Contents) (e : Event) (d : Contents) → Step c e d → Continues c e d
  continues c e d s h r = goes (e ∷ h) d (went h c e d r s)
