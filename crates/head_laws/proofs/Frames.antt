-- An entry that is written is read again as the entry that the bytes begin with.
use Rattle.std.proofs.Common.{◌≡◌, ℕ, ◌+◌, ◌-◌, ◌^◌, ◌<◌, ◌≤◌, true, ltb, List, ◌++◌, length, take, drop, Some, None, sym, refl, ap, ◌∙◌, arith}
use Rattle.std.proofs.lemmas.List.{append_assoc, length-append, take_at, drop_at, drop-drop}
use Rattle.std.proofs.lemmas.Bool.{le-ltb, cond-true, cond-false}
use Rattle.wire.specs.Numbers.{number_of}
use Rattle.wire.specs.declared.order.ByteOrder.TheVariants.{Little}
use Rattle.wire.proofs.Digits.{number-bytes, length-bytes_of}
use Rattle.image.specs.Head.{is_carried, entry_number, entry_size, head_entry, fronted, head_front}
use Rattle.image.specs.Run.{entry, run}
use Rattle.image.proofs.Runs.{run-entry}
use Rattle.facts.specs.Head.{framed}
use Rattle.facts.specs.Written.{u16, u32}

module _ (n : ℕ) (b t : List ℕ) where
  -- the bytes, one part after the other
  parts : framed n b ++ t ≡ u16 n ++ (u32 (length b) ++ (b ++ t))
  unfolding framed
  parts = simp append_assoc

  number-part : n < 2 ^ 16 → entry_number (framed n b ++ t) ≡ n
  number-part h =
      ap entry_number parts
      ∙ (ap (λ (x : List ℕ). number_of Little x) (take_at (u16 n) (u32 (length b) ++ (b ++ t)) 2 (length-bytes_of 2 n)) ∙ number-bytes 2 n (omega arith))

  behind_number : drop 2 (framed n b ++ t) ≡ u32 (length b) ++ (b ++ t)
  behind_number = ap (λ (x : List ℕ). drop 2 x) parts ∙ drop_at (u16 n) (u32 (length b) ++ (b ++ t)) 2 (length-bytes_of 2 n)

  size-part : length b < 2 ^ 32 → entry_size (framed n b ++ t) ≡ 6 + length b
  size-part h =
      ap (λ (x : List ℕ). 6 + number_of Little (take 4 x)) behind_number
      ∙ ap (λ (x : ℕ). 6 + x) (ap (λ (x : List ℕ). number_of Little x) (take_at (u32 (length b)) (b ++ t) 4 (length-bytes_of 4 (length b))) ∙ number-bytes 4 (length b) (omega arith))

  behind_size : drop 6 (framed n b ++ t) ≡ b ++ t
  behind_size =
      ap (λ (x : List ℕ). drop 6 x) (parts ∙ sym (append_assoc (u16 n) (u32 (length b)) (b ++ t)))
      ∙ drop_at (u16 n ++ u32 (length b)) (b ++ t) 6 (length-append (u16 n) (u32 (length b)) ∙ omega (arith, length-bytes_of 2 n, length-bytes_of 4 (length b)))

  pub length-framed : length (framed n b ++ t) ≡ 6 + length b + length t
  length-framed =
      ap length parts
      ∙ omega (arith, length-append (u16 n) (u32 (length b) ++ (b ++ t)), length-append (u32 (length b)) (b ++ t), length-append b t, length-bytes_of 2 n, length-bytes_of 4 (length b))

  -- the entry that the bytes begin with
  entry_read : (low : ℕ) → low ≤ n → is_carried n ≡ true → n < 2 ^ 16 → length b < 2 ^ 32 → head_entry low (framed n b ++ t) ≡ Some (record { number = n; size = 6 + length b })
  entry_read low rises is h k =
      let s = framed n b ++ t in
      let sized = size-part k in
      let numbered = number-part h in
      let long = length-framed in
      cond-false (ltb (length s) 6) None _ (le-ltb (length s) 6 (omega arith))
      ∙ (cond-false (ltb (length s) (entry_size s)) None _ (le-ltb (length s) (entry_size s) (omega arith))
      ∙ (cond-false (ltb (entry_number s) low) None _ (le-ltb (entry_number s) low (omega arith))
      ∙ (cond-true (is_carried (entry_number s)) _ None (ap is_carried numbered ∙ is)
      ∙ (λ i. Some (record { number = numbered i; size = sized i })))))

  -- that entry, and then those of what follows it
  pub run_framed : (low total : ℕ) → low ≤ n → is_carried n ≡ true → n < 2 ^ 16 → length b < 2 ^ 32 → run head_front low total (framed n b ++ t) ≡ entry (Some n) b (run head_front (n + 1) total t)
  run_framed low total rises is h k =
      let long = length-framed in
      run-entry head_front low total (framed n b ++ t) (record { feature = Some n; skip = 6; size = 6 + length b })
      (record { some = omega arith; within = omega arith }) (ap fronted (entry_read low rises is h k))
      ∙ (λ i. entry (Some n) (section i) (run head_front (n + 1) total (rest i)))
    where
      section : take (6 + length b - 6) (drop 6 (framed n b ++ t)) ≡ b
      section =
          let e : 6 + length b - 6 ≡ length b = omega arith in
          (λ i. take (e i) (behind_size i)) ∙ take_at b t (length b) refl

      rest : drop (6 + length b) (framed n b ++ t) ≡ t
      rest =
          sym (drop-drop (length b) 6 (framed n b ++ t)) ∙ (ap (λ (x : List ℕ). drop (length b) x) behind_size ∙ drop_at b t (length b) refl)
