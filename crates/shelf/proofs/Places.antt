-- The rows of a shelf, by place.
use Rattle.std.proofs.Common.{◌≡◌, ℕ, suc, ◌+◌, ◌*◌, ◌^◌, ◌<◌, ◌≤◌, Bool, not, List, length, get_or, count_by, take, drop, vec_items, vec_len, sym, refl, ap, ◌∙◌, subst, mul-le-mul_right, suc-mul, arith, rules}
use Rattle.std.proofs.lemmas.List.FromFn.{length-map-range_with_len, get_or-map-range_with_len}
use Rattle.std.proofs.lemmas.List.{get_or-take, length-take, length-take-le, take-take, places}
use Rattle.shelf.specs.declared.shelf.Group.{Group}
use Rattle.shelf.specs.declared.shelf.Shelf.TheInside.{Inside}
use Rattle.shelf.specs.Rows.{Row, free, is_free, is_held, row_at, row_of, strip_at}
use Rattle.shelf.specs.Contents.{Contents, row_in, blank}
use Rattle.shelf.specs.Strips.{contents, Sound}
use Rattle.shelf.specs.Stands.{StandsAt}
use Rattle.shelf.specs.Calls.{first_with, is_numbered}
use Rattle.shelf.specs.Sizes.{held}
use Rattle.shelf.proofs.Firsts.{first_same}
use Rattle.shelf.proofs.Sizes.{count_same}

-- a strip ends where the next begins
pub strip_end : (i n strip : ℕ) → i < n → i * strip + strip ≤ n * strip
strip_end i n strip p = omega (arith, suc-mul i strip, mul-le-mul_right {m = suc i} {n = n} strip (omega arith))

-- a strip that is lent has a strip's bytes
pub length-strip : (a k : ℕ) (xs : List ℕ) → a + k ≤ length xs → length (take k (drop a xs)) ≡ k
length-strip a k xs p = search (rules, places)

-- the row that a place of the struct has
abbrev pub row_standing : Inside → ℕ → Row
row_standing s j = row_at s.strip s.groups (vec_items s.bytes) j

module _ (s : Inside) (c : Contents) (is : contents s ≡ c) where
  pub rows_length : length c.rows ≡ s.strips
  rows_length = ap (λ (k : Contents). length k.rows) (sym is) ∙ length-map-range_with_len (row_standing s) 0 s.strips

  pub row_on : (j : ℕ) → j < s.strips → row_in c j ≡ row_standing s j
  row_on j l =
      ap (λ (k : Contents). row_in k j) (sym is) ∙ get_or-map-range_with_len (row_standing s) 0 s.strips j j (blank 0) l (omega arith)

  pub on_strip : (i : ℕ) → i < length c.rows → i < s.strips
  on_strip i l = omega (arith, rows_length)

  -- a strip is within the bytes
  pub strip_room : (i : ℕ) → Sound s → i < length c.rows → i * s.strip + s.strip ≤ vec_len s.bytes
  strip_room i o l = omega (arith, strip_end i s.strips s.strip (on_strip i l), o.room)

  pub strip_small : (i : ℕ) → Sound s → i < length c.rows → i * s.strip + s.strip < 2 ^ 63
  strip_small i o l = omega (arith, strip_room i o l, s.bytes.ok.1, s.bytes.small)

  -- the groups and the rows, place by place
  by_place : (t : Group → Bool) (p : Row → Bool) → Sound s → ((j : ℕ) → j < s.strips → t (get_or s.groups j free) ≡ p (row_standing s j)) → (length (take s.strips s.groups) ≡ length c.rows) × ((j : ℕ) → j < length (take s.strips s.groups) → t (get_or (take s.strips s.groups) j free) ≡ p (get_or c.rows j (blank 0)))
  by_place t p o same =
      let long : length (take s.strips s.groups) ≡ s.strips = length-take-le s.strips s.groups (omega (arith, o.few, o.places)) in
      (long ∙ sym rows_length, λ j l. let k : j < s.strips = omega (arith, long) in ap t (get_or-take s.strips s.groups j free k) ∙ same j k ∙ ap p (sym (row_on j k)))

  -- so a look-up among the groups finds the place that one among the rows does
  first_on : (t : Group → Bool) (p : Row → Bool) → Sound s → ((j : ℕ) → j < s.strips → t (get_or s.groups j free) ≡ p (row_standing s j)) → first_with t (take s.strips s.groups) ≡ first_with p c.rows
  first_on t p o same =
      let b = by_place t p o same in first_same t p (take s.strips s.groups) c.rows free (blank 0) b.0 b.1

  pub free_on : Sound s → first_with is_free (take s.strips s.groups) ≡ first_with (is_numbered 0) c.rows
  free_on o = first_on is_free (is_numbered 0) o (λ j l. refl)

  pub held_on : Sound s → count_by is_held (take s.strips s.groups) ≡ held c.rows
  held_on o =
      let b = by_place is_held (λ r. not (is_numbered 0 r)) o (λ j l. refl) in
      count_same (take s.strips s.groups) c.rows b.0 b.1

  -- the group of a place stands there
  pub stands : (i : ℕ) (g : Group) → Sound s → i < s.strips → get_or s.groups i free ≡ g → 1 ≤ g.number → StandsAt c i g
  stands i g o l e some =
      let f : g.len ≤ s.strip = subst (λ (x : Group). x.len ≤ s.strip) e (o.fits i) in
      let bytes : length (strip_at s.strip (vec_items s.bytes) i) ≡ s.strip = length-strip (i * s.strip) s.strip (vec_items s.bytes) (omega (arith, strip_end i s.strips s.strip l, o.room, s.bytes.ok.0)) in
      let row : row_in c i ≡ row_of g (strip_at s.strip (vec_items s.bytes) i) = row_on i l ∙ ap (λ (x : Group). row_of x (strip_at s.strip (vec_items s.bytes) i)) e in
      record {
        place = omega (arith, rows_length);
        few = omega (arith, rows_length, o.few);
        held = some;
        number = ap (λ (r : Row). r.number) row;
        count = ap (λ (r : Row). r.count) row;
        head = ap (λ (r : Row). length r.head) row ∙ length-take-le g.len (strip_at s.strip (vec_items s.bytes) i) (omega (arith, f, bytes));
      }

  -- a head is within its strip
  head_inside : (b : List ℕ) (g : Group) → length (row_of g b).head ≤ length b
  head_inside b g = omega (arith, length-take g.len b)

  pub head_within : (i : ℕ) → Sound s → i < length c.rows → length (row_in c i).head ≤ s.strip
  head_within i o l =
      let bytes : length (strip_at s.strip (vec_items s.bytes) i) ≡ s.strip = length-strip (i * s.strip) s.strip (vec_items s.bytes) (omega (arith, strip_room i o l, s.bytes.ok.0)) in
      omega (arith, ap (λ (r : Row). length r.head) (row_on i (on_strip i l)), head_inside (strip_at s.strip (vec_items s.bytes) i) (get_or s.groups i free), bytes)

  -- and none stands at a free one
  pub free_at : (i : ℕ) → i < s.strips → (get_or s.groups i free).number ≡ 0 → (row_in c i).number ≡ 0
  free_at i l e = ap (λ (r : Row). r.number) (row_on i l) ∙ e

  -- the head of the group that stands there
  head_of_row : (strip : ℕ) (bytes : List ℕ) (x g : Group) → length (row_of x (take strip bytes)).head ≡ g.len → x.len ≤ strip → length (take strip bytes) ≡ strip → take g.len bytes ≡ (row_of x (take strip bytes)).head
  head_of_row strip bytes x g h f k =
      let l : g.len ≡ x.len = omega (arith, h, length-take-le x.len (take strip bytes) (omega arith)) in
      ap (λ (n : ℕ). take n bytes) l ∙ sym (take-take x.len strip bytes f)

  pub head_on : (i : ℕ) (g : Group) → Sound s → StandsAt c i g → take g.len (drop (i * s.strip) (vec_items s.bytes)) ≡ (row_in c i).head
  head_on i g o a =
      let row = row_on i (on_strip i a.place) in
      let bytes : length (strip_at s.strip (vec_items s.bytes) i) ≡ s.strip = length-strip (i * s.strip) s.strip (vec_items s.bytes) (omega (arith, strip_room i o a.place, s.bytes.ok.0)) in
      head_of_row s.strip (drop (i * s.strip) (vec_items s.bytes)) (get_or s.groups i free) g (ap (λ (r : Row). length r.head) (sym row) ∙ a.head) (o.fits i) bytes
      ∙ ap (λ (r : Row). r.head) (sym row)
