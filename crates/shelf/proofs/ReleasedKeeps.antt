-- A release keeps the invariant.
use Rattle.std.proofs.Common.{◌≡◌, ℕ, ◌+◌, ◌<◌, ◌≤◌, sym, refl, ap, ◌∙◌, subst, ⊎_elim, arith}
use Rattle.std.proofs.lemmas.Bool.{cases_eq}
use Rattle.shelf.specs.Rows.{Row}
use Rattle.shelf.specs.Histories.{Filing}
use Rattle.shelf.specs.Law.{one}
use Rattle.shelf.proofs.Invariant.{Inv, But, HeadOf, one_same, one_other, tally, stays}

module _ (F L : ℕ → ℕ) (In : Filing → ℕ → Type 0) (n : ℕ) (R T : ℕ → Row) (g i : ℕ) (v : Inv F L In n R) (hold : 1 ≤ (R i).number) (num : (R i).number ≡ g) (o : But R i T) where
  left : (R i).count + L g ≡ F g
  left = subst (λ (u : ℕ). (R i).count + L u ≡ F u) num (v.shown i hold)

  -- of one filing of several
  pub lowered : 2 ≤ (R i).count → (T i).number ≡ g → (T i).count + 1 ≡ (R i).count → (T i).head ≡ (R i).head → Inv F (λ k. one g k + L k) In n T
  lowered several tn tc th =
      record {
        first = v.first;
        some = v.some;
        fresh = v.fresh;
        least = λ k. ⊎_elim (λ e. subst (λ (u : ℕ). one g u + L u ≤ F u) e.1 (omega (arith, at, several, one_same g g refl))) (λ e. omega (arith, v.least k)) (tally g k);
        counts = λ j p. ⊎_elim (λ e. omega (arith, tc, several, ap (λ (u : ℕ). (T u).count) e)) (λ e. omega (arith, o.count j e, v.counts j (omega (arith, number j)))) (cases_eq j i);
        shown = λ j p. subst (λ (u : ℕ). (T j).count + (one g u + L u) ≡ F u) (sym (number j)) (shown j (omega (arith, number j)));
        held = λ k p. let z = v.held k (omega arith) in (z.0, number z.0 ∙ z.1, omega (arith, number z.0, z.2));
        only = λ a b p e. v.only a b (omega (arith, number a)) (sym (number a) ∙ e ∙ number b);
        apart = λ a b p q e. v.apart a b (omega (arith, number a)) (omega (arith, number b)) (sym (kept a) ∙ e ∙ kept b);
        heads = λ j y p f. subst (HeadOf y) (sym (kept j)) (v.heads j y (omega (arith, number j)) (subst (In y) (number j) f));
        most = λ j p. ⊎_elim (λ e. omega (arith, tc, v.most i hold, ap (λ (u : ℕ). (T u).count) e)) (λ e. omega (arith, o.count j e, v.most j (omega (arith, number j)))) (cases_eq j i);
        used = v.used;
      }
    where
      at : (R i).count + L g ≡ F g
      at = left

      number : (j : ℕ) → (T j).number ≡ (R j).number
      number = stays (λ (j : ℕ). (R j).number) (λ (j : ℕ). (T j).number) i (tn ∙ sym num) o.number

      kept : (j : ℕ) → (T j).head ≡ (R j).head
      kept = stays (λ (j : ℕ). (R j).head) (λ (j : ℕ). (T j).head) i th o.head

      shown : (j : ℕ) → 1 ≤ (R j).number → (T j).count + (one g (R j).number + L (R j).number) ≡ F (R j).number
      shown j p =
          ⊎_elim
          (λ e. omega (arith, v.shown j p, tc, ap (λ (u : ℕ). (T u).count) e, ap (λ (u : ℕ). (R u).count) e, one_same g (R j).number (sym num ∙ ap (λ (u : ℕ). (R u).number) (sym e))))
          (λ e. omega (arith, v.shown j p, o.count j e, one_other g (R j).number (λ q. e (sym (v.only i j hold (num ∙ q))))))
          (cases_eq j i)

  -- of the last one
  pub freed : (R i).count ≤ 1 → (T i).number ≡ 0 → Inv F (λ k. one g k + L k) In n T
  freed last tn =
      record {
        first = v.first;
        some = v.some;
        fresh = v.fresh;
        least = λ k. ⊎_elim (λ e. subst (λ (u : ℕ). one g u + L u ≤ F u) e.1 (omega (arith, at, v.counts i hold, one_same g g refl))) (λ e. omega (arith, v.least k)) (tally g k);
        counts = λ j p. let d = moved j p in omega (arith, o.count j d, v.counts j (omega (arith, o.number j d)));
        shown = λ j p. shown j p (moved j p);
        held = λ k p. ⊎_elim (λ e. absurd (gone k e p)) (λ e. let z = v.held k (omega arith) in let d : z.0 ≡ i → ⊥ = λ y. e.1 (sym num ∙ ap (λ (w : ℕ). (R w).number) (sym y) ∙ z.1) in (z.0, o.number z.0 d ∙ z.1, omega (arith, o.number z.0 d, z.2))) (tally g k);
        only = λ a b p e. let d = moved a p in let c = moved b (omega arith) in v.only a b (omega (arith, o.number a d)) (sym (o.number a d) ∙ e ∙ o.number b c);
        apart = λ a b p q e. let d = moved a p in let c = moved b q in v.apart a b (omega (arith, o.number a d)) (omega (arith, o.number b c)) (sym (o.head a d) ∙ e ∙ o.head b c);
        heads = λ j y p f. let d = moved j p in subst (HeadOf y) (sym (o.head j d)) (v.heads j y (omega (arith, o.number j d)) (subst (In y) (o.number j d) f));
        most = λ j p. let d = moved j p in omega (arith, o.count j d, v.most j (omega (arith, o.number j d)));
        used = v.used;
      }
    where
      at : (R i).count + L g ≡ F g
      at = left

      moved : (j : ℕ) → 1 ≤ (T j).number → j ≡ i → ⊥
      moved j p e = omega (arith, tn, ap (λ (u : ℕ). (T u).number) e)

      gone : (k : ℕ) → ((one g k ≡ 1) × (g ≡ k)) → one g k + L k < F k → ⊥
      gone k e p = omega (arith, at, last, ap L e.1, ap F e.1)

      shown : (j : ℕ) → 1 ≤ (T j).number → (j ≡ i → ⊥) → (T j).count + (one g (T j).number + L (T j).number) ≡ F (T j).number
      shown j p d =
          subst (λ (u : ℕ). (T j).count + (one g u + L u) ≡ F u) (sym (o.number j d))
          (let q : 1 ≤ (R j).number = omega (arith, o.number j d) in omega (arith, v.shown j q, o.count j d, one_other g (R j).number (λ z. d (sym (v.only i j hold (num ∙ z))))))
