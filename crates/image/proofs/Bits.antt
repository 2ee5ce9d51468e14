-- The bits of the words that tell which features are set.
use Rattle.std.proofs.Common.{◌≡◌, ℕ, zero, suc, ◌+◌, ◌-◌, ◌*◌, ◌/◌, ◌%◌, ◌^◌, ◌<◌, ◌≤◌, Bool, false, cond, eqb, List, sym, refl, ap, ◌∙◌, ⊎_elim, mod-lt, arith}
use Rattle.std.proofs.lemmas.Bool.{eq-eqb, ne_eqb, cases_lt}
use Rattle.std.proofs.lemmas.Nat.{pow_pos, shr-shr, mod-pow-add, ones_cat}
use Rattle.std.proofs.lemmas.Nat.Bits.{bit_at-trailing_zeros, bit_at-zero, bit_at_above}
use Rattle.std.specs.Int.{w64, bit_at, trailing_zeros}
use Rattle.std.specs.Int.RustNames.{count_ones}
use Rattle.wire.specs.declared.order.ByteOrder.{ByteOrder}
use Rattle.image.specs.File.{set_word, is_set, set_below, IsNextSet}

module _ (o : ByteOrder) (s : List ℕ) where
  -- a feature's bit is one of its word, which begins `n % 64` bits before
  bit_is : (n i : ℕ) → n % 64 + i < 64 → is_set o s (n + i) ≡ eqb (bit_at (set_word o s (n / 64) / 2 ^ (n % 64)) i) 1
  bit_is n i l =
      let word : (n + i) / 64 ≡ n / 64 = omega arith in
      let bit : (n + i) % 64 ≡ n % 64 + i = omega arith in
      ap (λ w. eqb (set_word o s w / 2 ^ ((n + i) % 64) % 2) 1) word
      ∙ (ap (λ b. eqb (set_word o s (n / 64) / 2 ^ b % 2) 1) bit
      ∙ ap (λ x. eqb (x % 2) 1) (sym (shr-shr (set_word o s (n / 64)) (n % 64) i)))

  -- no feature of a word is set from a bit on where nothing is left of it
  pub rest_none : (n k : ℕ) → set_word o s (n / 64) / 2 ^ (n % 64) ≡ 0 → n ≤ k → k < 64 * (n / 64 + 1) → is_set o s k ≡ false
  rest_none n k e l m =
      let i : ℕ = k - n in
      let at : k ≡ n + i = omega arith in
      ap (is_set o s) at
      ∙ (bit_is n i (omega arith)
      ∙ ne_eqb (bit_at (set_word o s (n / 64) / 2 ^ (n % 64)) i) 1 (λ z. omega (arith, z, ap (λ x. bit_at x i) e, bit_at-zero i)))

  -- where something is left of it, the next feature is that of the lowest bit that is set
  pub rest_some : (from n : ℕ) → from ≤ n → n < 256 → ((k : ℕ) → from ≤ k → k < n → is_set o s k ≡ false) → set_word o s (n / 64) < 2 ^ 64 → 0 < set_word o s (n / 64) / 2 ^ (n % 64) → set_word o s (n / 64) / 2 ^ (n % 64) < 2 ^ 64 → IsNextSet o s from (n + trailing_zeros w64 (set_word o s (n / 64) / 2 ^ (n % 64)))
  rest_some from n after l none wide some fits =
      let word : ℕ = set_word o s (n / 64) in
      let rest : ℕ = word / 2 ^ (n % 64) in
      let low = bit_at-trailing_zeros w64 rest some fits in
      let t : ℕ = trailing_zeros w64 rest in
      let inside : n % 64 + t < 64 =
      ⊎_elim
      (λ (k : n % 64 + t < 64). k)
      (λ (k : 64 ≤ n % 64 + t).
      let bit : bit_at rest t ≡ bit_at word (n % 64 + t) = ap (λ x. x % 2) (shr-shr word (n % 64) t) in
      absurd (omega (arith, low.1, bit, bit_at_above word 64 (n % 64 + t) wide k)))
      (cases_lt (n % 64 + t) 64) in
      record {
        after = omega arith;
        within = omega (arith, inside);
        none = λ k a b. ⊎_elim
            (λ (c : k < n). none k a c)
            (λ (c : n ≤ k).
            let i : ℕ = k - n in
            let at : k ≡ n + i = omega arith in
            ap (is_set o s) at
            ∙ (bit_is n i (omega (arith, inside))
            ∙ ne_eqb (bit_at rest i) 1 (λ z. omega (arith, z, low.2 i (omega arith)))))
            (cases_lt k n);
        set = λ _. bit_is n t inside ∙ eq-eqb (bit_at rest t) 1 low.1;
      }

  -- a bit counts one where it is set
  counts : (d : ℕ) → d < 2 → cond (eqb d 1) 1 0 ≡ count_ones d
  unfolding count_ones
  counts zero l = refl
  counts (suc zero) l = refl
  counts (suc (suc d)) l = absurd (omega arith)

  -- of the features of a word that have one of its lowest bits, as many are set as those bits
  below_bits : (w j : ℕ) → j ≤ 64 → set_below o s (64 * w + j) ≡ set_below o s (64 * w) + count_ones (set_word o s w % 2 ^ j)
  unfolding set_below count_ones
  below_bits w zero l =
      let none : set_word o s w % 2 ^ 0 ≡ 0 = omega arith in
      let at : 64 * w + 0 ≡ 64 * w = omega arith in
      let same : set_below o s (64 * w) ≡ set_below o s (64 * w) + count_ones 0 = omega arith in
      ap (set_below o s) at ∙ (same ∙ ap (λ x. set_below o s (64 * w) + count_ones x) (sym none))
  below_bits w (suc j) l =
      let word : ℕ = set_word o s w in
      let next : 64 * w + suc j ≡ suc (64 * w + j) = omega arith in
      let place : (64 * w + j) / 64 ≡ w = omega arith in
      let bit : (64 * w + j) % 64 ≡ j = omega arith in
      let set : is_set o s (64 * w + j) ≡ eqb (word / 2 ^ j % 2) 1 =
      ap (λ i. eqb (set_word o s i / 2 ^ ((64 * w + j) % 64) % 2) 1) place ∙ ap (λ i. eqb (word / 2 ^ i % 2) 1) bit in
      let split : word % 2 ^ (1 + j) ≡ (word / 2 ^ j % 2) * 2 ^ j + word % 2 ^ j = mod-pow-add word 1 j in
      let suc-is : suc j ≡ 1 + j = omega arith in
      let ones : count_ones (word % 2 ^ suc j) ≡ count_ones (word / 2 ^ j % 2) + count_ones (word % 2 ^ j) =
      ap (λ i. count_ones (word % 2 ^ i)) suc-is ∙ (ap count_ones split ∙ ones_cat j (word / 2 ^ j % 2) (word % 2 ^ j) (mod-lt word (pow_pos j))) in
      ap (set_below o s) next
      ∙ (ap (λ (b : Bool). set_below o s (64 * w + j) + cond b 1 0) set
      ∙ omega (arith, counts (word / 2 ^ j % 2) (omega arith), below_bits w j (omega arith), ones))

  -- all of a word's features
  pub below_word : (w : ℕ) → set_word o s w < 2 ^ 64 → set_below o s (64 * (w + 1)) ≡ set_below o s (64 * w) + count_ones (set_word o s w)
  below_word w l =
      let more : 64 * (w + 1) ≡ 64 * w + 64 = omega arith in
      let all : set_word o s w % 2 ^ 64 ≡ set_word o s w = omega arith in
      ap (set_below o s) more ∙ (below_bits w 64 (omega arith) ∙ ap (λ x. set_below o s (64 * w) + count_ones x) all)
