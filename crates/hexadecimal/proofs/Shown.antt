-- A byte's two digits are what it is written as.
use Rattle.std.proofs.Common.{◌≡◌, ℕ, suc, ◌+◌, ◌<◌, ◌≤◌, ◌/◌, ◌%◌, true, false, List, [], ◌∷◌, ◌++◌, take, length, get_or, eqb, Result, Option, Some, subst, refl, ap, ◌∙◌, ⊎_elim, add-one, arith}
use Rattle.std.proofs.lemmas.Bool.{cond-true, cond-false, ne_eqb, cases_lt}
use Rattle.std.proofs.lemmas.Grind.{flat_map-append}
use Rattle.std.proofs.Math.Seq.{take-suc}
use Rattle.std.specs.Option.{option_map}
use Rattle.std.specs.declared.fmt.Error.{Error}
use Rattle.std.specs.declared.fmt.Formatter.{Formatter}
use Rattle.std.specs.Fmt.{DisplaysOnOk, WritesOnOk, digits, digits_onto, digit_glyph, padded_integral, format_spec, char_count}
use Rattle.hexadecimal.specs.Hex.{pair_of, text_of}

is_zero : (n : ℕ) → n ≡ 0 → eqb n 0 ≡ true
is_zero n e = ap (λ m. eqb m 0) e

last : (k b : ℕ) (acc : List ℕ) → b / 16 ≡ 0 → digits_onto (suc k) 16 false b acc ≡ digit_glyph false (b % 16) ∷ acc
last k b acc e = cond-true _ _ _ (is_zero (b / 16) e)

next : (k b : ℕ) (acc : List ℕ) → 0 < b / 16 → digits_onto (suc k) 16 false b acc ≡ digits_onto k 16 false (b / 16) (digit_glyph false (b % 16) ∷ acc)
next k b acc h = cond-false _ _ _ (ne_eqb (b / 16) 0 (λ e. omega arith))

digits_low : (b : ℕ) → b < 16 → digits 16 false b ≡ digit_glyph false (b % 16) ∷ []
unfolding digits
digits_low b h = last 63 b [] (omega arith)

digits_high : (b : ℕ) → 16 ≤ b → b < 256 → digits 16 false b ≡ digit_glyph false (b / 16 % 16) ∷ digit_glyph false (b % 16) ∷ []
unfolding digits
digits_high b l h = next 63 b [] (omega arith) ∙ last 62 (b / 16) (digit_glyph false (b % 16) ∷ []) (omega arith)

padded_one : (x : ℕ) → padded_integral (format_spec 32 0 4 2 18446744073709551615) false [] (x ∷ []) ≡ 48 ∷ x ∷ []
unfolding padded_integral char_count
padded_one x = refl

padded_two : (x y : ℕ) → padded_integral (format_spec 32 0 4 2 18446744073709551615) false [] (x ∷ y ∷ []) ≡ x ∷ y ∷ []
unfolding padded_integral char_count
padded_two x y = refl

padded_low : (b : ℕ) → b < 16 → padded_integral (format_spec 32 0 4 2 18446744073709551615) false [] (digits 16 false b) ≡ pair_of b
padded_low b l =
    let none : 0 ≡ b / 16 = omega arith in
    ap (padded_integral (format_spec 32 0 4 2 18446744073709551615) false []) (digits_low b l)
    ∙ (padded_one (digit_glyph false (b % 16)) ∙ ap (λ q. digit_glyph false q ∷ digit_glyph false (b % 16) ∷ []) none)

padded_high : (b : ℕ) → 16 ≤ b → b < 256 → padded_integral (format_spec 32 0 4 2 18446744073709551615) false [] (digits 16 false b) ≡ pair_of b
padded_high b l h =
    let same : b / 16 % 16 ≡ b / 16 = omega arith in
    ap (padded_integral (format_spec 32 0 4 2 18446744073709551615) false []) (digits_high b l h)
    ∙ (padded_two (digit_glyph false (b / 16 % 16)) (digit_glyph false (b % 16)) ∙ ap (λ q. digit_glyph false q ∷ digit_glyph false (b % 16) ∷ []) same)

-- what `{:02x}` writes of a byte
pub padded_pair : (b : ℕ) → b < 256 → padded_integral (format_spec 32 0 4 2 18446744073709551615) false [] (digits 16 false b) ≡ pair_of b
padded_pair b h = ⊎_elim (padded_low b) (λ l. padded_high b l h) (cases_lt b 16)

-- and so a write of it writes its two digits
pub writes_pair : {W : Type 0} (took : W → List ℕ → W → Type 0) (f g : Formatter W) (r : Result (Unit {0}) Error) (o numeral : Option (List ℕ)) (b : ℕ) → b < 256 → o ≡ option_map (padded_integral (format_spec 32 0 4 2 18446744073709551615) false []) numeral → numeral ≡ Some (digits 16 false b) → DisplaysOnOk took f r o g → WritesOnOk took f r (pair_of b) g
writes_pair took f g r o numeral b h padded number =
    subst (λ o. DisplaysOnOk took f r o g) (padded ∙ (ap (option_map (padded_integral (format_spec 32 0 4 2 18446744073709551615) false [])) number ∙ ap Some (padded_pair b h)))

pub text_more : (xs : List ℕ) (i : ℕ) → i < length xs → text_of (take (i + 1) xs) ≡ text_of (take i xs) ++ pair_of (get_or xs i 0)
text_more xs i h = ap (λ n. text_of (take n xs)) (add-one i) ∙ (ap text_of (take-suc xs i 0 h) ∙ flat_map-append pair_of (take i xs) (get_or xs i 0 ∷ []))
