-- A table: rows in strictly rising order of their keys. `o` is the order of the keys, and `key` gives a row's key.
use Rattle.std.specs.Prelude.{◌≡◌, ℕ, suc, ◌<◌, ◌≤◌, List, [], ◌∷◌, Some, None, Ok, Err, Option, Result}
use Rattle.std.specs.declared.cmp.Ordering.TheVariants.{Less, Equal, Greater}
use Rattle.std.specs.declared.cmp.Ordering.{Ordering}
use Rattle.table.specs.Order.{Order}

-- The first at `Less`, the second at `Equal`, the third at `Greater`.
abbrev pub choose : {X : Type 0} → Ordering → X → X → X → X
choose Less x y z = x
choose Equal x y z = y
choose Greater x y z = z

-- What is there, or else a second.
abbrev pub or_else : {X : Type 0} → Option X → Option X → Option X
or_else None y = y
or_else (Some x) y = Some x

abbrev pub next : Result ℕ ℕ → Result ℕ ℕ
next (Ok i) = Ok (suc i)
next (Err i) = Err (suc i)

module _ {K R : Type 0} (o : Order K) (key : R → K) where
  -- Each row comes before every later one.
  abbrev pub Before : R → List R → Type 0
  Before x [] = Unit {0}
  Before x (y ∷ ys) = (o.cmp (key x) (key y) ≡ Less) × Before x ys

  abbrev pub Rising : List R → Type 0
  Rising [] = Unit {0}
  Rising (x ∷ xs) = Before x xs × Rising xs

  -- A table with one more row in its place: a row with the same key gives way to it.
  abbrev pub inserted : List R → R → List R
  inserted [] r = r ∷ []
  inserted (x ∷ xs) r = choose (o.cmp (key x) (key r)) (x ∷ inserted xs r) (r ∷ xs) (r ∷ x ∷ xs)

  abbrev pub inserted_all : List R → List R → List R
  inserted_all xs [] = xs
  inserted_all xs (r ∷ rs) = inserted_all (inserted xs r) rs

  -- The table of some rows: they are inserted one after another, from no row on.
  abbrev pub tabled : List R → List R
  tabled rs = inserted_all [] rs

  -- The row of a table that has a key.
  abbrev pub lookup : List R → K → Option R
  lookup [] k = None
  lookup (x ∷ xs) k = choose (o.cmp (key x) k) (lookup xs k) (Some x) (lookup xs k)

  -- The last of some rows that has a key: what stands where a key is given again.
  abbrev pub last_of : List R → K → Option R
  last_of [] k = None
  last_of (r ∷ rs) k = or_else (last_of rs k) (choose (o.cmp (key r) k) None (Some r) None)

  -- Where a row belongs in a table: `Ok i`, the row i has its key; `Err i`, between the rows i - 1 and i.
  abbrev pub placed : List R → R → Result ℕ ℕ
  placed [] r = Err 0
  placed (x ∷ xs) r = choose (o.cmp (key x) (key r)) (next (placed xs r)) (Ok 0) (Err 0)

-- A place among n rows: of a row that is there, or between two, before the first or after the last.
abbrev pub Within : Result ℕ ℕ → ℕ → Type 0
Within (Ok i) n = i < n
Within (Err i) n = i ≤ n
