-- How a line is read, and what is answered to it.
use Rattle.std.specs.Prelude.{◌≡◌, ℕ, ◌≤◌, ◌⊎◌, ⊤, min, List, ◌∷◌, Result, MatchResult, Some, None, Option, codes, ◌==◌}
use Rattle.std.specs.List.{before_first, after_first}
use Rattle.std.specs.Str.Parse.{IsNumeral, digits_value, without_leading_plus}
use Rattle.hexadecimal.specs.Hex.{bytes_of, items}
use Rattle.wire.specs.declared.order.ByteOrder.{ByteOrder}
use Rattle.wire.specs.declared.order.ByteOrder.TheVariants.{Little, Big}
use Rattle.answers.specs.Lines.{line_text}
use Rattle.answers.specs.Questions.{question_word}
use Rattle.answers.specs.declared.line.Line.{Line}
use Rattle.answers.specs.declared.line.LineError.{LineError}
use Rattle.answers.specs.declared.line.LineError.TheVariants.{Bad, Memory}

-- What stands before the first space, and behind it.
abbrev pub first_word : List ℕ → List ℕ
first_word words = before_first (λ c. c == 32) words

abbrev pub other_words : List ℕ → List ℕ
other_words words = after_first (λ c. c == 32) words

-- ORDER
abbrev pub order_word : ByteOrder → List ℕ
order_word Little = codes "le"
order_word Big = codes "be"

-- ROWS: a decimal number up to 65536, as std reads it: a plus may stand before it.
abbrev pub IsNumberWord : List ℕ → ℕ → Type 0
IsNumberWord word n =
    IsNumeral 10 (without_leading_plus word) × (n ≡ digits_value 10 (without_leading_plus word)) × (n ≤ 65536)

-- SECTION: `-` where it is absent, else `x` and its bytes in hexadecimal.
abbrev pub IsSectionWord : List ℕ → Option (List ℕ) → Type 0
IsSectionWord word None = word ≡ codes "-"
IsSectionWord word (Some bytes) = (digits : List ℕ) × (word ≡ 120 ∷ digits) × (bytes_of digits ≡ Some bytes)

-- QUESTION ORDER ROWS SECTION, with one space between.
abbrev pub IsLine : List ℕ → Line → Type 0
IsLine text line =
    (first_word text ≡ question_word line.question)
    × (first_word (other_words text) ≡ order_word line.order)
    × IsNumberWord (first_word (other_words (other_words text))) line.number
    × IsSectionWord (other_words (other_words (other_words text))) (items line.section)

-- The error is not of memory.
abbrev pub IsBad : LineError → Type 0
IsBad Bad = ⊤
IsBad (Memory e) = ⊥

-- What is read of a text: the line that it is, or, but for want of memory, that it is none.
abbrev pub IsReading : List ℕ → Result Line LineError → Type 0
IsReading text read = MatchResult read (IsLine text) (λ e. IsBad e → (line : Line) → ¬ (IsLine text line))

-- A text is answered as the line that it is, with as many of the rows as it asks for, and called a bad line where it is none.
abbrev pub IsAnswer : List ℕ → ℕ → List ℕ → Type 0
IsAnswer text rows answer =
    ((answer ≡ codes "bad line") × ((line : Line) → ¬ (IsLine text line)))
    ⊎ ((line : Line) × IsLine text line × (answer ≡ line_text line.question line.order line.number (min line.number rows) (items line.section)))
