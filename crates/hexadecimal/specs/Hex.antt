-- Bytes in lower-case hexadecimal.
use Rattle.std.specs.Prelude.{ℕ, ◌+◌, ◌-◌, ◌*◌, ◌/◌, ◌%◌, cond, ◌&&◌, List, [], ◌∷◌, Some, None, vec_items, Option, Vec, nat_le, false}
use Rattle.std.specs.List.{flat_map}
use Rattle.std.specs.Fmt.{digit_glyph}
use Rattle.std.specs.declared.alloc.Global.{Global}

-- 0 to 9, and a to f for 10 to 15.
abbrev pub digit_of : ℕ → Option ℕ
digit_of c =
    cond (nat_le 48 c && nat_le c 57) (Some (c - 48)) (cond (nat_le 97 c && nat_le c 102) (Some (c - 97 + 10)) None)

-- A byte before others, if there are any.
abbrev pub before : Option ℕ → Option ℕ → Option (List ℕ) → Option (List ℕ)
before None low more = None
before (Some high) None more = None
before (Some high) (Some low) None = None
before (Some high) (Some low) (Some more) = Some ((16 * high + low) ∷ more)

-- A byte is two digits, the higher first.
abbrev pub bytes_of : List ℕ → Option (List ℕ)
bytes_of [] = Some []
bytes_of (a ∷ []) = None
bytes_of (a ∷ b ∷ text) = before (digit_of a) (digit_of b) (bytes_of text)

abbrev pub items : Option (Vec ℕ Global) → Option (List ℕ)
items None = None
items (Some v) = Some (vec_items v)

-- The text of bytes: two digits each, the higher first.
abbrev pub pair_of : ℕ → List ℕ
pair_of b = digit_glyph false (b / 16) ∷ digit_glyph false (b % 16) ∷ []

abbrev pub text_of : List ℕ → List ℕ
text_of bytes = flat_map pair_of bytes
