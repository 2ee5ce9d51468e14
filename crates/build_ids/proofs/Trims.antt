-- An id without the zeros at its end.
use Rattle.std.proofs.Common.{◌≡◌, ℕ, zero, suc, ◌+◌, ◌-◌, ◌*◌, ◌/◌, ◌%◌, ◌≤◌, min, Bool, true, false, cond, eqb, ◌&&◌, List, [], ◌∷◌, ◌++◌, length, get_or, take, drop, replicate, Some, sym, refl, ap, ◌∙◌, subst, append-nil, append_assoc, true≢false, arith}
use Rattle.std.proofs.lemmas.Bool.{ne_eqb, eqb-true, cond-false}
use Rattle.std.proofs.lemmas.List.{length-take, length-drop, take-take, drop-take, take-append-drop, replicate-append-replicate}
use Rattle.wire.specs.declared.order.ByteOrder.{ByteOrder}
use Rattle.build_ids.specs.Events.{Event, all_zero, less_zeros, id_of, event}
use Rattle.build_ids.specs.Laws.{Trimmed}
use Rattle.build_ids.proofs.Reading.{event-is}

-- bytes that are all zero
zeros_by : (b : ℕ) (bs : List ℕ) (t : Bool) → t ≡ eqb b 0 → (all_zero bs ≡ true → bs ≡ replicate (length bs) 0) → (t && all_zero bs) ≡ true → ◌≡◌ {A = List ℕ} (b ∷ bs) (0 ∷ replicate (length bs) 0)
zeros_by b bs true p more h = let q = eqb-true b 0 (sym p) in λ i. q i ∷ more h i
zeros_by b bs false p more h = absurd (true≢false (sym h))

zeros-are : (bs : List ℕ) → all_zero bs ≡ true → bs ≡ replicate (length bs) 0
zeros-are [] h = refl
zeros-are (b ∷ bs) h = zeros_by b bs (eqb b 0) refl (zeros-are bs) h

module _ (bytes : List ℕ) where
  abbrev front : ℕ → List ℕ
  front n = take (4 * n) bytes

  -- one group more
  group : (n : ℕ) → 4 * suc n ≤ length bytes → front (suc n) ≡ front n ++ take 4 (drop (4 * n) bytes)
  group n l =
      let all : 4 * suc n ≡ 4 * n + 4 = omega arith in
      sym (take-append-drop (4 * n) (front (suc n)))
      ∙ (λ i. take-take (4 * n) (4 * suc n) bytes (omega arith) i ++ (ap (λ m. drop (4 * n) (take m bytes)) all ∙ drop-take (4 * n) 4 bytes) i)

  four-zeros : (n : ℕ) → 4 * suc n ≤ length bytes → all_zero (take 4 (drop (4 * n) bytes)) ≡ true → take 4 (drop (4 * n) bytes) ≡ replicate 4 0
  four-zeros n l h =
      let four : length (take 4 (drop (4 * n) bytes)) ≡ 4 = omega (arith, length-take 4 (drop (4 * n) bytes), length-drop (4 * n) bytes) in
      zeros-are (take 4 (drop (4 * n) bytes)) h ∙ ap (λ k. replicate k 0) four

  trims_by : (n : ℕ) (b : Bool) → b ≡ all_zero (take 4 (drop (4 * n) bytes)) → 4 * suc n ≤ length bytes → Trimmed (front n) (less_zeros n bytes) → Trimmed (front (suc n)) (cond b (less_zeros n bytes) (front (suc n)))
  trims_by n true p l t =
      let more : 4 * t.groups + 4 ≡ 4 * suc t.groups = omega arith in
      record {
        groups = suc t.groups;
        zeros =
            ap (λ k. less_zeros n bytes ++ replicate k 0) (sym more)
            ∙ ap (λ zs. less_zeros n bytes ++ zs) (sym (replicate-append-replicate (4 * t.groups) 4 0))
            ∙ sym (append_assoc (less_zeros n bytes) (replicate (4 * t.groups) 0) (replicate 4 0))
            ∙ (λ i. t.zeros i ++ sym (four-zeros n l (sym p)) i)
            ∙ sym (group n l);
        last = t.last;
      }
  trims_by n false p l t =
      let all : 4 * suc n ≡ 4 * n + 4 = omega arith in
      let at : length (front (suc n)) - 4 ≡ 4 * n = omega (arith, length-take (4 * suc n) bytes) in
      record {
        groups = 0;
        zeros = append-nil (front (suc n));
        last = λ some. ap all_zero (ap (λ m. drop m (front (suc n))) at ∙ ap (λ m. drop (4 * n) (take m bytes)) all ∙ drop-take (4 * n) 4 bytes) ∙ sym p;
      }

  trims : (n : ℕ) → 4 * n ≤ length bytes → Trimmed (front n) (less_zeros n bytes)
  unfolding less_zeros
  trims zero l = record { groups = 0; zeros = refl; last = λ some. absurd (omega (arith, some)) }
  trims (suc n) l = trims_by n (all_zero (take 4 (drop (4 * n) bytes))) refl l (trims n (omega arith))

module _ (o : ByteOrder) (s : List ℕ) where
  unflagged : (misc : ℕ) → 36 ≤ length s → misc / 0x8000 % 2 ≡ 0 → Trimmed (take 20 (drop 12 s)) (id_of misc (take 24 (drop 12 s)))
  unflagged misc l z =
      let bytes = take 24 (drop 12 s) in
      let long : 20 ≤ length bytes = omega (arith, length-take 24 (drop 12 s), length-drop 12 s) in
      let off : eqb (misc / 0x8000 % 2) 1 ≡ false = ne_eqb (misc / 0x8000 % 2) 1 (λ e. absurd (omega arith)) in
      subst (Trimmed (take 20 (drop 12 s))) (sym (cond-false (eqb (misc / 0x8000 % 2) 1) (take (min (get_or bytes 20 0) 20) bytes) (less_zeros 5 bytes) off))
      (subst (λ all. Trimmed all (less_zeros 5 bytes)) (take-take 20 24 (drop 12 s) (omega arith)) (trims bytes 5 long))

  -- without the flag an id and its zeros are the first 20 bytes for it
  pub id-trimmed : (e : Event) → event o s ≡ Some e → e.misc / 0x8000 % 2 ≡ 0 → Trimmed (take 20 (drop 12 s)) e.id
  id-trimmed e h =
      let i = event-is o s e h in
      subst (λ (x : Event). x.misc / 0x8000 % 2 ≡ 0 → Trimmed (take 20 (drop 12 s)) x.id) i.same (unflagged i.misc (omega (arith, i.least, i.within)))
