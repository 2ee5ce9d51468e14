-- How much there is on a shelf.
use Rattle.std.specs.Prelude.{ℕ, ◌+◌, cond, List, [], ◌∷◌}
use Rattle.shelf.specs.Rows.{Row}
use Rattle.shelf.specs.Calls.{is_numbered}

-- The rows that belong to groups.
abbrev pub held : List Row → ℕ
held [] = 0
held (r ∷ rs) = cond (is_numbered 0 r) 0 1 + held rs
