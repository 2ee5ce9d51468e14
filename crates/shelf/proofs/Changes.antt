-- What a shelf holds after a change at one place.
use Rattle.std.proofs.Common.{◌≡◌, ℕ, ◌+◌, ◌*◌, ◌<◌, ◌≤◌, List, ◌++◌, map, length, get_or, take, drop, set, vec_items, vec_len, Vec, Ok, Err, Result, replicate, ◌-◌, refl, sym, ap, ◌∙◌, subst, ⊎_elim, arith, rules}
use borrow.Rule.Slice.PartMut.{put_mid}
use Rattle.std.proofs.lemmas.List.FromFn.{length-map-range_with_len, get_or-map-range_with_len}
use Rattle.std.proofs.lemmas.List.{ext_get_or, get_or_past, get_or-set_other, get_or-set_same, drop-take, drop_at, take-append-drop, length-set, length-take-le, places, with_items_is, take_at}
use Rattle.std.proofs.lemmas.Slice.{take-put_mid_below, drop-put_mid}
use Rattle.std.proofs.lemmas.Bool.{cases_eq, cases_lt, cases_order}
use Rattle.std.specs.Vec.{with_items}
use Rattle.std.specs.List.{range_with_len}
use Rattle.shelf.specs.declared.shelf.Group.{Group}
use Rattle.shelf.specs.Rows.{Row, free, row_of, row_at, strip_at}
use Rattle.wire.specs.declared.refusal.Fault.{Fault}
use Rattle.facts.specs.Head.{length_of}
use Rattle.shelf.specs.Contents.{Contents, blank, put, handed_out}
use Rattle.shelf.specs.Strips.{contents_of}
use Rattle.shelf.specs.Keeping.{with_zeros, kept_at}
use Rattle.shelf.proofs.Places.{strip_end}

-- the rows by place, where they change at one place
rows_set : (f g : ℕ → Row) (n i : ℕ) (r : Row) → i < n → g i ≡ r → ((j : ℕ) → (j ≡ i → ⊥) → g j ≡ f j) → map g (range_with_len 0 n) ≡ set (map f (range_with_len 0 n)) i r
rows_set f g n i r l here others =
    ext_get_or (blank 0) (map g (range_with_len 0 n)) (set (map f (range_with_len 0 n)) i r) (length-map-range_with_len g 0 n ∙ sym (length-set (map f (range_with_len 0 n)) i r ∙ length-map-range_with_len f 0 n)) (λ j p. at j (omega (arith, length-map-range_with_len g 0 n)))
  where
    at : (j : ℕ) → j < n → get_or (map g (range_with_len 0 n)) j (blank 0) ≡ get_or (set (map f (range_with_len 0 n)) i r) j (blank 0)
    at j p =
        get_or-map-range_with_len g 0 n j j (blank 0) p (omega arith)
        ∙ ⊎_elim
        (λ e. ap g e ∙ here ∙ sym (get_or-set_same (map f (range_with_len 0 n)) i r (blank 0) (omega (arith, length-map-range_with_len f 0 n))) ∙ ap (λ (k : ℕ). get_or (set (map f (range_with_len 0 n)) i r) k (blank 0)) (sym e))
        (λ e. others j e ∙ sym (get_or-map-range_with_len f 0 n j j (blank 0) p (omega arith)) ∙ sym (get_or-set_other (map f (range_with_len 0 n)) i j r (blank 0) e))
        (cases_eq j i)

-- a group changes and its strip does not
pub regrouped : (strip n next : ℕ) (gs : List Group) (g : Group) (bytes : List ℕ) (i : ℕ) → i < n → n ≤ length gs → contents_of strip n next (set gs i g) bytes ≡ put (contents_of strip n next gs bytes) i (row_of g (strip_at strip bytes i))
regrouped strip n next gs g bytes i l few =
    ap (λ (rs : List Row). record { strip = strip; next = next; rows = rs; tail = drop (n * strip) bytes })
    (rows_set (row_at strip gs bytes) (row_at strip (set gs i g) bytes) n i (row_of g (strip_at strip bytes i)) l (ap (λ (x : Group). row_of x (strip_at strip bytes i)) (get_or-set_same gs i g free (omega arith))) (λ j e. ap (λ (x : Group). row_of x (strip_at strip bytes j)) (get_or-set_other gs i j g free e)))

-- the strips after a write to one
strip_other : (strip i j n : ℕ) (xs ys : List ℕ) → i < n → n * strip ≤ length xs → length ys ≡ strip → (j ≡ i → ⊥) → strip_at strip (put_mid (i * strip) strip xs ys) j ≡ strip_at strip xs j
strip_other strip i j n xs ys l room e ne = ⊎_elim (λ z. absurd (ne z)) (⊎_elim below above) (cases_order j i)
  where
    below : j < i → strip_at strip (put_mid (i * strip) strip xs ys) j ≡ strip_at strip xs j
    below z =
        sym (drop-take (j * strip) strip (put_mid (i * strip) strip xs ys))
        ∙ ap (drop (j * strip)) (take-put_mid_below (i * strip) strip xs ys (j * strip + strip) (strip_end j i strip z) (omega (arith, strip_end i n strip l)))
        ∙ drop-take (j * strip) strip xs

    above : i < j → strip_at strip (put_mid (i * strip) strip xs ys) j ≡ strip_at strip xs j
    above z = ap (take strip) (drop-put_mid (i * strip) strip xs ys (j * strip) (strip_end i j strip z) (omega (arith, strip_end i n strip l)) e)

strip_here : (strip i n : ℕ) (xs ys : List ℕ) → i < n → n * strip ≤ length xs → length ys ≡ strip → strip_at strip (put_mid (i * strip) strip xs ys) i ≡ ys
strip_here strip i n xs ys l room e =
    ap (take strip) (drop_at (take (i * strip) xs) (ys ++ drop strip (drop (i * strip) xs)) (i * strip) (length-take-le (i * strip) xs (omega (arith, strip_end i n strip l))))
    ∙ take_at ys (drop strip (drop (i * strip) xs)) strip e

-- a group and its strip change
rewritten : (strip n next : ℕ) (gs : List Group) (g : Group) (xs ys : List ℕ) (i : ℕ) → i < n → n ≤ length gs → n * strip ≤ length xs → length ys ≡ strip → contents_of strip n next (set gs i g) (put_mid (i * strip) strip xs ys) ≡ put (contents_of strip n next gs xs) i (row_of g ys)
rewritten strip n next gs g xs ys i l few room e =
    ap (λ (rs : List Row). record { strip = strip; next = next; rows = rs; tail = drop (n * strip) bytes })
    (rows_set (row_at strip gs xs) (row_at strip (set gs i g) bytes) n i (row_of g ys) l (ap (λ (x : Group). row_of x (strip_at strip bytes i)) (get_or-set_same gs i g free (omega arith)) ∙ ap (row_of g) (strip_here strip i n xs ys l room e)) (λ j ne. ap (λ (x : Group). row_of x (strip_at strip bytes j)) (get_or-set_other gs i j g free ne) ∙ ap (row_of (get_or gs j free)) (strip_other strip i j n xs ys l room e ne)))
    ∙ ap (λ (t : List ℕ). record { strip = strip; next = next; rows = set (map (row_at strip gs xs) (range_with_len 0 n)) i (row_of g ys); tail = t }) (drop-put_mid (i * strip) strip xs ys (n * strip) (strip_end i n strip l) (omega (arith, strip_end i n strip l)) e)
  where
    bytes : List ℕ
    bytes = put_mid (i * strip) strip xs ys

length-put : (a k : ℕ) (xs ys : List ℕ) → a + k ≤ length xs → length ys ≡ k → length (put_mid a k xs ys) ≡ length xs
length-put a k xs ys p q = search (rules, places)

-- as the code has it: the strip of the vector was lent, and came back as `ys`
pub lent_strip : {Z : Type 0} (v : Vec ℕ Z) (strip n next k : ℕ) (gs : List Group) (g : Group) (xs ys : List ℕ) (i : ℕ) → xs ≡ vec_items v → i < n → n ≤ length gs → n * strip ≤ vec_len v → k ≡ strip → length ys ≡ strip → contents_of strip n next (set gs i g) (vec_items (with_items v (put_mid (i * strip) k xs ys))) ≡ put (contents_of strip n next gs (vec_items v)) i (row_of g ys)
lent_strip v strip n next k gs g xs ys i e l few room q r =
    ap (λ (m : ℕ). contents_of strip n next (set gs i g) (vec_items (with_items v (put_mid (i * strip) m xs ys)))) q
    ∙ ap (contents_of strip n next (set gs i g)) (with_items_is v (put_mid (i * strip) strip xs ys) (length-put (i * strip) strip xs ys (omega (arith, long, strip_end i n strip l)) r ∙ long))
    ∙ rewritten strip n next gs g xs ys i l few (omega (arith, long)) r
    ∙ ap (λ (b : List ℕ). put (contents_of strip n next gs b) i (row_of g ys)) e
  where
    long : length xs ≡ vec_len v
    long = ap length e ∙ sym v.ok.0

-- every head is still within its strip
pub fits_set : (strip : ℕ) (gs : List Group) (i : ℕ) (g : Group) → ((j : ℕ) → (get_or gs j free).len ≤ strip) → g.len ≤ strip → (j : ℕ) → (get_or (set gs i g) j free).len ≤ strip
fits_set strip gs i g w p j =
    ⊎_elim
    (λ e. ⊎_elim (λ l. subst (λ (x : Group). x.len ≤ strip) (sym (ap (λ (a : ℕ). get_or (set gs a g) j free) (sym e) ∙ get_or-set_same gs j g free l)) p) (λ l. subst (λ (x : Group). x.len ≤ strip) (sym (get_or_past (set gs i g) j free (omega (arith, length-set gs i g)))) (omega arith)) (cases_lt j (length gs)))
    (λ e. subst (λ (x : Group). x.len ≤ strip) (sym (get_or-set_other gs i j g free e)) (w j))
    (cases_eq j i)

-- a part that came back as it was lent
pub part_same : (a k : ℕ) (xs : List ℕ) → put_mid a k xs (take k (drop a xs)) ≡ xs
part_same a k xs = ap (λ (b : List ℕ). take a xs ++ b) (take-append-drop k (drop a xs)) ∙ take-append-drop a xs

pub lent_same : {Z : Type 0} (v : Vec ℕ Z) (a k : ℕ) (xs : List ℕ) → xs ≡ vec_items v → vec_items (with_items v (put_mid a k xs (take k (drop a xs)))) ≡ vec_items v
lent_same v a k xs e =
    with_items_is v (put_mid a k xs (take k (drop a xs))) (ap length (part_same a k xs ∙ e) ∙ sym v.ok.0) ∙ part_same a k xs ∙ e

-- what was made in a strip, and the row that it is then
pub kept : (c : Contents) (i len : ℕ) (r : Result (List ℕ) Fault) (part new : List ℕ) → length part ≡ c.strip → Ok len ≡ length_of r → new ≡ with_zeros r part → handed_out (put c i (row_of (record { number = c.next; count = 1; len = len }) new)) ≡ kept_at c i r
kept c i len (Err f) part new l a e = let z : ◌≡◌ {A = ℕ} 0 1 = cc in absurd (omega arith)
kept c i len (Ok h) part new l a e =
    let same : len ≡ length h = cc in
    let whole : new ≡ h ++ replicate (c.strip - length h) 0 = e ∙ ap (λ (n : ℕ). h ++ replicate (n - length h) 0) l in
    let front : take len new ≡ h = ap (take len) whole ∙ take_at h (replicate (c.strip - length h) 0) len (sym same) in
    let behind : drop len new ≡ replicate (c.strip - length h) 0 = ap (drop len) whole ∙ drop_at h (replicate (c.strip - length h) 0) len (sym same) in
    (λ j. handed_out (put c i (record { number = c.next; count = 1; head = front j; rest = behind j })))

-- or was not
pub not_kept : (c : Contents) (i : ℕ) (f : Fault) (r : Result (List ℕ) Fault) (part new : List ℕ) → Err f ≡ length_of r → new ≡ with_zeros r part → (new ≡ part) × (kept_at c i r ≡ c)
not_kept c i f (Ok h) part new a e = let z : ◌≡◌ {A = ℕ} 0 1 = cc in absurd (omega arith)
not_kept c i f (Err x) part new a e = (e, refl)
