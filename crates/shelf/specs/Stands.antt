-- What a look-up finds.
use Rattle.std.specs.Prelude.{◌≡◌, ℕ, ◌<◌, ◌≤◌, Bool, true, false, ◌&&◌, length, Option, Some, None, nat_lt}
use Rattle.shelf.specs.declared.shelf.Group.{Group}
use Rattle.shelf.specs.declared.shelf.Held.{Held}
use Rattle.shelf.specs.Rows.{Row}
use Rattle.shelf.specs.Contents.{Contents, row_in}
use Rattle.shelf.specs.Calls.{is_numbered}

-- A group that stands at a place.
pub record StandsAt (c : Contents) (i : ℕ) (g : Group) : Type 0 where
  pub place : i < length c.rows
  pub few : length c.rows ≤ 64
  pub held : 1 ≤ g.number
  pub number : (row_in c i).number ≡ g.number
  pub count : (row_in c i).count ≡ g.count
  pub head : length (row_in c i).head ≡ g.len

-- The group at a place, if there is one.
abbrev pub HeldAt : Contents → ℕ → Option Held → Type 0
HeldAt c i None = (row_in c i).number ≡ 0
HeldAt c i (Some h) = (h.place ≡ i) × StandsAt c h.place h.group

-- The group at a place, if its row passes a test that no free row passes.
abbrev pub PassesAt : Contents → (Row → Bool) → ℕ → Option Held → Type 0
PassesAt c p i None = p (row_in c i) ≡ false
PassesAt c p i (Some h) = (p (row_in c i) ≡ true) × (h.place ≡ i) × StandsAt c h.place h.group

-- The row of the group with a number; no group has the number 0.
abbrev pub has_number : ℕ → Row → Bool
has_number g r = nat_lt 0 r.number && is_numbered g r

-- The place that is meant, and the group there.
abbrev pub FindsGroup : Contents → Option ℕ → Option Held → Type 0
FindsGroup c o None = o ≡ None
FindsGroup c o (Some h) = (o ≡ Some h.place) × StandsAt c h.place h.group
