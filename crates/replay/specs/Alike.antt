-- When an answer of ours is taken for equal to the Rust's.
use Rattle.std.specs.Prelude.{ℕ, Bool, true, false, cond, ◌||◌, List, codes, ◌==◌}
use Rattle.std.specs.List.{starts_with}
use Rattle.std.specs.Str.{bytes_eq}
use Rattle.replay.specs.declared.verdict.Verdict.{Verdict}
use Rattle.replay.specs.declared.verdict.Verdict.TheVariants.{Equal, TooFewRows, TooMuchMemory, Other}

abbrev pub begins : List ℕ → List ℕ → Bool
begins front text = starts_with ◌==◌ text front

-- The Rust's refusal has no number and no place, so any refusal of ours is equal to it; every other answer is the same
-- byte for byte.
abbrev pub alike : List ℕ → List ℕ → Bool
alike ours theirs = cond (bytes_eq theirs (codes "refused")) (begins (codes "refused ") ours) (bytes_eq ours theirs)

-- The refusals of a table that has too few rows.
abbrev pub refuses_rows : List ℕ → Bool
refuses_rows ours =
    bytes_eq ours (codes "refused 31 4 16 0")
    || (bytes_eq ours (codes "refused 31 4 129 0") || bytes_eq ours (codes "refused 31 4 2 0"))

abbrev pub is_equal : Verdict → Bool
is_equal Equal = true
is_equal TooFewRows = false
is_equal TooMuchMemory = false
is_equal Other = false

abbrev pub is_rows : Verdict → Bool
is_rows Equal = false
is_rows TooFewRows = true
is_rows TooMuchMemory = false
is_rows Other = false

abbrev pub is_memory : Verdict → Bool
is_memory Equal = false
is_memory TooFewRows = false
is_memory TooMuchMemory = true
is_memory Other = false

abbrev pub is_other : Verdict → Bool
is_other Equal = false
is_other TooFewRows = false
is_other TooMuchMemory = false
is_other Other = true
