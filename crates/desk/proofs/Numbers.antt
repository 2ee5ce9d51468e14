-- Words that are numbers, and words that are none.
use Rattle.std.proofs.Common.{◌≡◌, ℕ, ◌<◌, ◌^◌, List, get_or, Ok, Err, Result, IfOk, IfErr, ◌⊎◌, ⊎_elim, subst, sym, arith}
use Rattle.std.proofs.lemmas.Str.Parse.{digit_at, without_leading_plus_none}
use Rattle.std.specs.Str.Parse.{IsNumeral, digits_value, without_leading_plus, ParsesUnsigned, ExplainsUnsignedError, HasUnsignedDigitsIfOk}
use Rattle.std.specs.declared.num.ParseIntError.{ParseIntError}
use Rattle.desk.specs.declared.request.BadLine.{BadLine}
use Rattle.desk.specs.Requests.{Reads, IsNumber}

-- a number does not begin with a plus
no_plus : (word : List ℕ) (n : ℕ) → IsNumber word n → get_or word 0 0 ≡ 43 → ⊥
no_plus word n w e = let d = digit_at word 0 w.0.1 w.0.0 in omega (arith, d.0, d.1)

-- what std says of a word that it does not parse, and of one that it does
abbrev Unparsed : List ℕ → ParseIntError → Type 0
Unparsed word e = ParsesUnsigned 64 10 word (Err e) × ExplainsUnsignedError {T = ℕ} 10 word (Err e) × HasUnsignedDigitsIfOk {T = ℕ} {E = ParseIntError} word (Err e)

abbrev Parsed : List ℕ → ℕ → Type 0
Parsed word n = ParsesUnsigned {E = ParseIntError} 64 10 word (Ok n) × ExplainsUnsignedError {T = ℕ} 10 word (Ok n) × HasUnsignedDigitsIfOk {T = ℕ} {E = ParseIntError} word (Ok n)

-- a word that begins with a plus, or that std does not parse
pub not_number : (word : List ℕ) → (get_or word 0 0 ≡ 43) ⊎ ((e : ParseIntError) × Unparsed word e) → (n : ℕ) → IsNumber word n → ⊥
not_number word z n w =
    ⊎_elim
    (no_plus word n w)
    (λ p. p.1.0 (subst (λ (b : List ℕ). IsNumeral 10 b × (digits_value 10 b < 2 ^ 64)) (sym (without_leading_plus_none word (no_plus word n w))) (w.0, omega (arith, w.1, w.2))))
    z

-- a number is read or turned down
pub number_reads : (word : List ℕ) (r : Result ℕ BadLine) → IfOk r (λ n. Parsed word n) → IfOk r (λ _. without_leading_plus word ≡ word) → IfErr r (λ _. (get_or word 0 0 ≡ 43) ⊎ ((e : ParseIntError) × Unparsed word e)) → Reads (IsNumber word) r
number_reads word (Ok n) p d z = subst (λ (b : List ℕ). IsNumeral 10 b × (digits_value 10 b ≡ n) × (n < 2 ^ 64)) d (p.0.0.0, sym p.0.1, omega (arith, p.0.0.1, p.0.1))
number_reads word (Err e) p d z = not_number word z
