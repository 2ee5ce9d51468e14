-- Parts of a path.
use Rattle.std.specs.Prelude.{ℕ, ◌-◌, Bool, cond, List, [], ◌∷◌, length, take, drop, Some, None, codes, Option, ◌==◌}
use Rattle.std.specs.Str.{bytes_eq}

-- A path begins with a byte string.
abbrev pub begins : List ℕ → List ℕ → Bool
begins front path = bytes_eq front (take (length front) path)

-- What stands after the last slash of some bytes; `here` where they have none.
unfoldable pub after_last : List ℕ → List ℕ → List ℕ
after_last here [] = here
after_last here (b ∷ bs) = cond (b == 0x2F) (after_last bs bs) (after_last here bs)

-- The part after the last slash, or all of a path that has none.
abbrev pub file_name : List ℕ → List ℕ
file_name path = after_last path path

-- What a name that ends in `.ko` has before that.
abbrev pub stem : List ℕ → Option (List ℕ)
stem name = cond (bytes_eq (drop (length name - 3) name) (codes ".ko")) (Some (take (length name - 3) name)) None
