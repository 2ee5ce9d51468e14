-- Pairs of digits, read from the front.
use Rattle.std.proofs.Common.{◌≡◌, ℕ, zero, suc, ◌+◌, ◌*◌, ◌/◌, ◌%◌, ◌<◌, ◌≤◌, List, [], ◌∷◌, ◌++◌, length, get_or, take, drop, Some, None, Option, sym, refl, ap, ◌∙◌, append_assoc, arith}
use Rattle.std.proofs.lemmas.List.{length-drop, drop-drop}
use Rattle.std.specs.Simd.{first_chunks}
use Rattle.hexadecimal.specs.Hex.{digit_of, before, bytes_of}

-- bytes, and then what is read of the rest
abbrev pub behind : List ℕ → Option (List ℕ) → Option (List ℕ)
behind xs None = None
behind xs (Some ys) = Some (xs ++ ys)

pub behind_nothing : (o : Option (List ℕ)) → behind [] o ≡ o
behind_nothing None = refl
behind_nothing (Some ys) = refl

-- nothing is read where a digit or the rest is none
pub before-not_high : (high low : Option ℕ) (more : Option (List ℕ)) → high ≡ None → before high low more ≡ None
before-not_high high low more e = ap (λ o. before o low more) e

pub before-not_low : (high low : Option ℕ) (more : Option (List ℕ)) → low ≡ None → before high low more ≡ None
before-not_low None low more e = refl
before-not_low (Some high) low more e = ap (λ o. before (Some high) o more) e

before-not_more : (high low : Option ℕ) → before high low None ≡ None
before-not_more None low = refl
before-not_more (Some high) None = refl
before-not_more (Some high) (Some low) = refl

pub odd_none : (s : List ℕ) → length s % 2 ≡ 1 → bytes_of s ≡ None
odd_none [] h = absurd (omega (arith, h))
odd_none (x ∷ []) h = refl
odd_none (x ∷ y ∷ s) h =
    ap (before (digit_of x) (digit_of y)) (odd_none s (omega (arith, h))) ∙ before-not_more (digit_of x) (digit_of y)

-- the pair of a number
pair_at : (s : List ℕ) (k i : ℕ) → i < k → get_or (first_chunks 2 k s) i [] ≡ take 2 (drop (i * 2) s)
pair_at s zero i h = absurd (omega arith)
pair_at s (suc k) zero h = refl
pair_at s (suc k) (suc i) h =
    let e : 2 + i * 2 ≡ suc i * 2 = omega arith in
    pair_at (drop 2 s) k i (omega arith) ∙ (ap (take 2) (drop-drop (i * 2) 2 s) ∙ ap (λ n. take 2 (drop n s)) e)

front_pair : (s pair : List ℕ) → 2 ≤ length s → pair ≡ take 2 s → bytes_of s ≡ before (digit_of (get_or pair 0 0)) (digit_of (get_or pair 1 0)) (bytes_of (drop 2 s))
front_pair [] pair l e = absurd (omega arith)
front_pair (x ∷ []) pair l e = absurd (omega arith)
front_pair (x ∷ y ∷ s) pair l e =
    ap (λ p. before (digit_of (get_or p 0 0)) (digit_of (get_or p 1 0)) (bytes_of s)) (sym e)

-- a pair and what follows it
pub pair_read : (s : List ℕ) (pairs : List (List ℕ)) (i : ℕ) → i < length pairs → pairs ≡ first_chunks 2 (length s / 2) s → length pairs ≡ length s / 2 → bytes_of (drop (i * 2) s) ≡ before (digit_of (get_or (get_or pairs i []) 0 0)) (digit_of (get_or (get_or pairs i []) 1 0)) (bytes_of (drop ((i + 1) * 2) s))
pair_read s pairs i h e l =
    let d = length-drop (i * 2) s in
    let next : i * 2 + 2 ≡ (i + 1) * 2 = omega arith in
    front_pair (drop (i * 2) s) (get_or pairs i []) (omega (arith, d, h, l))
    (ap (λ p. get_or p i []) e ∙ pair_at s (length s / 2) i (omega (arith, h, l)))
    ∙ ap (λ x. before (digit_of (get_or (get_or pairs i []) 0 0)) (digit_of (get_or (get_or pairs i []) 1 0)) (bytes_of x)) (drop-drop 2 (i * 2) s ∙ ap (λ n. drop n s) next)

-- a byte more
pub behind_more : (xs ys : List ℕ) (o : Option (List ℕ)) (high low : ℕ) → ys ≡ xs ++ ((16 * high + low) ∷ []) → behind ys o ≡ behind xs (before (Some high) (Some low) o)
behind_more xs ys None high low e = refl
behind_more xs ys (Some zs) high low e =
    ap (λ t. Some (t ++ zs)) e ∙ ap Some (append_assoc xs ((16 * high + low) ∷ []) zs)
