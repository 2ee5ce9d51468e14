-- What holds of tables, for every order of the keys.
use Rattle.std.specs.Prelude.{◌≡◌, ℕ, ◌<◌, ◌≤◌, List, ◌∷◌, ◌++◌, map, length, Some}
use Rattle.std.specs.declared.cmp.Ordering.TheVariants.{Less}
use Rattle.table.specs.Order.{Order, numbers, texts}
use Rattle.table.specs.Table.{choose, Rising, inserted, tabled, lookup, last_of}

module _ {K R : Type 0} (o : Order K) (key : R → K) where
  -- An insertion keeps the order.
  abbrev pub StaysRising : Type 0
  StaysRising = (xs : List R) (r : R) → Rising o key xs → Rising o key (inserted o key xs r)

  -- An insertion sets its own key, and no other.
  abbrev pub Sets : Type 0
  Sets = (xs : List R) (r : R) (k : K) → lookup o key (inserted o key xs r) k ≡ choose (o.cmp (key r) k) (lookup o key xs k) (Some r) (lookup o key xs k)

  -- The table of some rows is strictly rising.
  abbrev pub Rises : Type 0
  Rises = (given : List R) → Rising o key (tabled o key given)

  -- What it has at a key is the last of the rows that was given with that key.
  abbrev pub LastStands : Type 0
  LastStands = (given : List R) (k : K) → lookup o key (tabled o key given) k ≡ last_of o key given k

  -- Tables that have the same rows at each key are the same.
  abbrev pub Determined : Type 0
  Determined = (xs ys : List R) → Rising o key xs → Rising o key ys → ((k : K) → lookup o key xs k ≡ lookup o key ys k) → xs ≡ ys

  -- The rows of a table, inserted in order, are that table.
  abbrev pub Again : Type 0
  Again = (xs : List R) → Rising o key xs → tabled o key xs ≡ xs

  -- Where more rows are given, the table has as many rows or more.
  abbrev pub Grows : Type 0
  Grows = (given more : List R) → length (tabled o key given) ≤ length (tabled o key (given ++ more))

  -- What the rows of a table stand for is the table of what the rows given stand for: where they point to does not matter.
  abbrev pub Carries : {S : Type 0} → (S → K) → (R → S) → Type 0
  Carries key' f = (given : List R) → map f (tabled o key given) ≡ tabled o key' (map f given)

-- The order of numbers is by size.
abbrev pub BySize : Type 0
BySize = (x y : ℕ) → x < y → numbers.cmp x y ≡ Less

-- Of two texts the first byte in which they differ decides; a beginning comes before its extension.
abbrev pub ByFirstDifference : Type 0
ByFirstDifference = (front xs ys : List ℕ) (x y : ℕ) → x < y → texts.cmp (front ++ x ∷ xs) (front ++ y ∷ ys) ≡ Less

abbrev pub BeginningFirst : Type 0
BeginningFirst = (front ys : List ℕ) (y : ℕ) → texts.cmp front (front ++ y ∷ ys) ≡ Less
