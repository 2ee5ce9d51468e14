-- A filing keeps the invariant.
use Rattle.std.proofs.Common.{◌≡◌, ℕ, ◌+◌, ◌<◌, ◌≤◌, ◌⊎◌, List, sym, refl, ap, ◌∙◌, subst, inl, inr, ⊎_elim, arith}
use Rattle.std.proofs.lemmas.Bool.{cases_eq}
use Rattle.shelf.specs.Rows.{Row}
use Rattle.shelf.specs.Histories.{Filing}
use Rattle.shelf.specs.Law.{one}
use Rattle.shelf.proofs.Invariant.{Inv, But, HeadOf, one_same, one_other, tally, cases_zero, stays}

-- what was filed, with one filing more
abbrev pub Also : Filing → ℕ → (Filing → ℕ → Type 0) → Filing → ℕ → Type 0
Also x g In y k = ((y ≡ x) × (k ≡ g)) ⊎ In y k

module _ (F L : ℕ → ℕ) (In : Filing → ℕ → Type 0) (n : ℕ) (R T : ℕ → Row) (x : Filing) (hd : List ℕ) (i : ℕ) (v : Inv F L In n R) (is : HeadOf x hd) (o : But R i T) where
  -- of a head that is held
  pub again : (g : ℕ) → 1 ≤ (R i).number → (R i).number ≡ g → (R i).head ≡ hd → (T i).number ≡ g → (R i).count < 4294967295 → (T i).count ≡ (R i).count + 1 → (T i).head ≡ hd → Inv (λ k. one g k + F k) L (Also x g In) n T
  again g hold num same tn few tc th =
      record {
        first = v.first;
        some = λ y k f. ⊎_elim (λ e. omega (arith, one_same g k (sym e.1))) (λ e. omega (arith, v.some y k e)) f;
        fresh = λ k p. ⊎_elim (λ e. subst (λ (u : ℕ). (1 ≤ u) × (u < n)) e.1 (v.fresh g some)) (λ e. v.fresh k (omega arith)) (tally g k);
        least = λ k. omega (arith, v.least k);
        counts = λ j p. ⊎_elim (λ e. omega (arith, tc, ap (λ (u : ℕ). (T u).count) e)) (λ e. omega (arith, o.count j e, v.counts j (omega (arith, number j)))) (cases_eq j i);
        shown = λ j p. subst (λ (u : ℕ). (T j).count + L u ≡ one g u + F u) (sym (number j)) (shown j (omega (arith, number j)));
        held = λ k p. ⊎_elim (λ e. (i, tn ∙ e.1, omega arith)) (λ e. let z = v.held k (omega arith) in (z.0, number z.0 ∙ z.1, omega (arith, number z.0, z.2))) (tally g k);
        only = λ a b p e. v.only a b (omega (arith, number a)) (sym (number a) ∙ e ∙ number b);
        apart = λ a b p q e. v.apart a b (omega (arith, number a)) (omega (arith, number b)) (sym (kept a) ∙ e ∙ kept b);
        heads = λ j y p f. ⊎_elim (λ e. subst (HeadOf y) (sym th ∙ ap (λ (u : ℕ). (T u).head) (v.only i j hold (num ∙ sym e.1 ∙ number j))) (subst (λ (z : Filing). HeadOf z hd) (sym e.0) is)) (λ e. subst (HeadOf y) (sym (kept j)) (v.heads j y (omega (arith, number j)) (subst (In y) (number j) e))) f;
        most = λ j p. ⊎_elim (λ e. omega (arith, few, tc, ap (λ (u : ℕ). (T u).count) e)) (λ e. omega (arith, o.count j e, v.most j (omega (arith, number j)))) (cases_eq j i);
        used = λ p. omega (arith, v.used p);
      }
    where
      number : (j : ℕ) → (T j).number ≡ (R j).number
      number = stays (λ (j : ℕ). (R j).number) (λ (j : ℕ). (T j).number) i (tn ∙ sym num) o.number

      kept : (j : ℕ) → (T j).head ≡ (R j).head
      kept = stays (λ (j : ℕ). (R j).head) (λ (j : ℕ). (T j).head) i (th ∙ sym same) o.head

      at : (R i).count + L g ≡ F g
      at = subst (λ (u : ℕ). (R i).count + L u ≡ F u) num (v.shown i hold)

      some : 1 ≤ F g
      some = omega (arith, at, v.counts i hold)

      shown : (j : ℕ) → 1 ≤ (R j).number → (T j).count + L (R j).number ≡ one g (R j).number + F (R j).number
      shown j p =
          ⊎_elim
          (λ e. omega (arith, v.shown j p, tc, ap (λ (u : ℕ). (T u).count) e, ap (λ (u : ℕ). (R u).count) e, one_same g (R j).number (sym num ∙ ap (λ (u : ℕ). (R u).number) (sym e))))
          (λ e. omega (arith, v.shown j p, o.count j e, one_other g (R j).number (λ q. e (sym (v.only i j hold (num ∙ q))))))
          (cases_eq j i)

  -- of a head that no group has
  pub anew : n < 4294967296 → (R i).number ≡ 0 → ((j : ℕ) → 1 ≤ (R j).number → (R j).head ≡ hd → ⊥) → (T i).number ≡ n → (T i).count ≡ 1 → (T i).head ≡ hd → Inv (λ k. one n k + F k) L (Also x n In) (n + 1) T
  anew low vacant unlike tn tc th =
      record {
        first = omega arith;
        some = λ y k f. ⊎_elim (λ e. omega (arith, one_same n k (sym e.1))) (λ e. omega (arith, v.some y k e)) f;
        fresh = λ k p. ⊎_elim (λ e. (omega (arith, v.first), omega arith)) (λ e. let z = v.fresh k (omega arith) in (z.0, omega (arith, z.1))) (tally n k);
        least = λ k. omega (arith, v.least k);
        counts = λ j p. ⊎_elim (λ e. omega (arith, tc, ap (λ (u : ℕ). (T u).count) e)) (λ e. omega (arith, o.count j e, v.counts j (omega (arith, o.number j e)))) (cases_eq j i);
        shown = λ j p. ⊎_elim (λ e. here j e) (λ e. there j e p) (cases_eq j i);
        held = λ k p. ⊎_elim (λ e. (i, tn ∙ e.1, omega (arith, v.first))) (λ e. let z = v.held k (omega arith) in let d = moved z.0 z.2 in (z.0, o.number z.0 d ∙ z.1, omega (arith, o.number z.0 d, z.2))) (tally n k);
        only = λ a b p e. only a b p e (cases_eq a i) (cases_eq b i);
        apart = λ a b p q e. apart a b p q e (cases_eq a i) (cases_eq b i);
        heads = λ j y p f. heads j y p f (cases_eq j i);
        most = λ j p. ⊎_elim (λ e. omega (arith, tc, ap (λ (u : ℕ). (T u).count) e)) (λ e. omega (arith, o.count j e, v.most j (omega (arith, o.number j e)))) (cases_eq j i);
        used = λ p. omega (arith, one_same n 4294967295 (omega (arith, low, p)));
      }
    where
      none : F n ≡ 0
      none = ⊎_elim (λ e. e) (λ e. absurd (omega (arith, (v.fresh n (omega (arith, e))).1))) (cases_zero (F n))

      moved : (j : ℕ) → 1 ≤ (R j).number → j ≡ i → ⊥
      moved j p e = omega (arith, vacant, ap (λ (u : ℕ). (R u).number) e)

      -- a row of before has a number that was handed out before
      older : (j : ℕ) → 1 ≤ (R j).number → (R j).number < n
      older j p = (v.fresh (R j).number (omega (arith, v.shown j p, v.counts j p))).1

      here : (j : ℕ) → j ≡ i → (T j).count + L (T j).number ≡ one n (T j).number + F (T j).number
      here j e =
          subst (λ (u : ℕ). (T u).count + L (T u).number ≡ one n (T u).number + F (T u).number) (sym e)
          (subst (λ (u : ℕ). (T i).count + L u ≡ one n u + F u) (sym tn) (omega (arith, tc, none, v.least n, one_same n n refl)))

      there : (j : ℕ) → (j ≡ i → ⊥) → 1 ≤ (T j).number → (T j).count + L (T j).number ≡ one n (T j).number + F (T j).number
      there j e p =
          subst (λ (u : ℕ). (T j).count + L u ≡ one n u + F u) (sym (o.number j e))
          (let q : 1 ≤ (R j).number = omega (arith, o.number j e) in omega (arith, v.shown j q, o.count j e, one_other n (R j).number (λ z. omega (arith, older j q))))

      only : (a b : ℕ) → 1 ≤ (T a).number → (T a).number ≡ (T b).number → ((a ≡ i) ⊎ (a ≡ i → ⊥)) → ((b ≡ i) ⊎ (b ≡ i → ⊥)) → a ≡ b
      only a b p e (inl y) (inl z) = y ∙ sym z
      only a b p e (inl y) (inr z) = absurd (omega (arith, older b (omega (arith, v.first, tn, ap (λ (u : ℕ). (T u).number) y, o.number b z)), tn, ap (λ (u : ℕ). (T u).number) y, o.number b z))
      only a b p e (inr y) (inl z) = absurd (omega (arith, older a (omega (arith, o.number a y)), tn, ap (λ (u : ℕ). (T u).number) z, o.number a y))
      only a b p e (inr y) (inr z) = v.only a b (omega (arith, o.number a y)) (sym (o.number a y) ∙ e ∙ o.number b z)

      apart : (a b : ℕ) → 1 ≤ (T a).number → 1 ≤ (T b).number → (T a).head ≡ (T b).head → ((a ≡ i) ⊎ (a ≡ i → ⊥)) → ((b ≡ i) ⊎ (b ≡ i → ⊥)) → a ≡ b
      apart a b p q e (inl y) (inl z) = y ∙ sym z
      apart a b p q e (inl y) (inr z) = absurd (unlike b (omega (arith, o.number b z)) (sym (o.head b z) ∙ sym e ∙ ap (λ (u : ℕ). (T u).head) y ∙ th))
      apart a b p q e (inr y) (inl z) = absurd (unlike a (omega (arith, o.number a y)) (sym (o.head a y) ∙ e ∙ ap (λ (u : ℕ). (T u).head) z ∙ th))
      apart a b p q e (inr y) (inr z) = v.apart a b (omega (arith, o.number a y)) (omega (arith, o.number b z)) (sym (o.head a y) ∙ e ∙ o.head b z)

      heads : (j : ℕ) (y : Filing) → 1 ≤ (T j).number → Also x n In y (T j).number → ((j ≡ i) ⊎ (j ≡ i → ⊥)) → HeadOf y (T j).head
      heads j y p (inl f) (inl z) = subst (HeadOf y) (sym th ∙ ap (λ (u : ℕ). (T u).head) (sym z)) (subst (λ (w : Filing). HeadOf w hd) (sym f.0) is)
      heads j y p (inl f) (inr z) = absurd (omega (arith, older j (omega (arith, o.number j z)), o.number j z, f.1))
      heads j y p (inr f) (inl z) = absurd (omega (arith, none, v.some y (T j).number f, ap F (ap (λ (u : ℕ). (T u).number) z ∙ tn)))
      heads j y p (inr f) (inr z) = subst (HeadOf y) (sym (o.head j z)) (v.heads j y (omega (arith, o.number j z)) (subst (In y) (o.number j z) f))
