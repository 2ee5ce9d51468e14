-- The characters that are printed as they are, and what is printed of the others.
use Rattle.std.specs.Prelude.{ℕ, Bool, false, not, cond, ◌&&◌, ◌||◌, ◌==◌, nat_le, List, ◌++◌, codes, chars, encode_utf8}
use Rattle.std.specs.List.{flat_map}
use Rattle.std.specs.Fmt.{digits}

abbrev pub within : ℕ → ℕ → ℕ → Bool
within low high c = nat_le low c && nat_le c high

-- Unicode's control codes, C0 with DEL, and C1.
abbrev pub is_control : ℕ → Bool
is_control c = within 0 0x1F c || within 0x7F 0x9F c

-- The Arabic letter mark, the two direction marks, the line and paragraph separators with the five embeddings and
-- overrides after them, and the four isolates.
abbrev pub turns_line : ℕ → Bool
turns_line c = c == 0x61C || (within 0x200E 0x200F c || (within 0x2028 0x202E c || within 0x2066 0x2069 c))

-- Everything else but the backslash, which escapes begin with.
abbrev pub is_plain : ℕ → Bool
is_plain c = not (is_control c || (turns_line c || c == 0x5C))

-- In one of several words the space is not plain either, so that they can be told apart.
abbrev pub is_plain_in : Bool → ℕ → Bool
is_plain_in in_word c = is_plain c && not (in_word && c == 0x20)

-- By its number, in lower-case hexadecimal without leading zeros: `\u{1b}`.
abbrev pub by_number : ℕ → List ℕ
by_number c = codes "\\u{" ++ (digits 16 false c ++ codes "}")

abbrev pub char_text : Bool → ℕ → List ℕ
char_text in_word c = cond (is_plain_in in_word c) (encode_utf8 c) (by_number c)

-- What is printed of a text, or of a word.
abbrev pub printed : Bool → List ℕ → List ℕ
printed in_word text = flat_map (char_text in_word) (chars text)
