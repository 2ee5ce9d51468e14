-- What holds of tables: the theorems of specs/Theorems.
use Rattle.std.proofs.Common.{◌≡◌, ◌≤◌, List, [], ◌∷◌, ◌++◌, length, is_some, Some, None, Option, Ordering, Less, Equal, Greater, unwrap_or, sym, refl, ap, ◌∙◌, subst, true≢false, append_assoc, append-nil, arith}
use Rattle.std.specs.Ordering.{is_lt, is_gt, ordering_reverse}
use Rattle.table.specs.Order.{Order}
use Rattle.table.specs.Table.{choose, or_else, Before, Rising, inserted, inserted_all, tabled, lookup, last_of}
use Rattle.table.specs.Theorems.{StaysRising, Sets, Rises, LastStands, Determined, Again, Grows}

still : (r : Ordering) → r ≡ ordering_reverse r → r ≡ Equal
still Less e = absurd (true≢false (ap is_lt e))
still Equal e = refl
still Greater e = absurd (true≢false (ap is_gt e))

module _ {K R : Type 0} (o : Order K) (key : R → K) where
  abbrev c : R → R → Ordering
  c a b = o.cmp (key a) (key b)

  itself : (k : K) → o.cmp k k ≡ Equal
  itself k = still (o.cmp k k) (o.flip k k)

  less_from_greater : (x y : R) → c x y ≡ Greater → c y x ≡ Less
  less_from_greater x y e = o.flip (key y) (key x) ∙ ap ordering_reverse e

  greater_from_less : (x y : R) → c x y ≡ Less → c y x ≡ Greater
  greater_from_less x y e = o.flip (key y) (key x) ∙ ap ordering_reverse e

  before_less : (x y : R) (ys : List R) → c x y ≡ Less → Before o key y ys → Before o key x ys
  before_less x y [] e h = tt
  before_less x y (z ∷ zs) e h = (o.trans (key x) (key y) (key z) e h.0, before_less x y zs e h.1)

  before-equal : (x y : R) (ys : List R) → c x y ≡ Equal → Before o key x ys → Before o key y ys
  before-equal x y [] e h = tt
  before-equal x y (z ∷ zs) e h = (ap (λ k. o.cmp k (key z)) (sym (o.equal (key x) (key y) e)) ∙ h.0, before-equal x y zs e h.1)

  -- ---- an insertion keeps the order

  before_by : (y x : R) (xs : List R) (r : R) (k : Ordering) → c y r ≡ Less → Before o key y (x ∷ xs) → Before o key y (inserted o key xs r) → Before o key y (choose k (x ∷ inserted o key xs r) (r ∷ xs) (r ∷ x ∷ xs))
  before_by y x xs r Less e h t = (h.0, t)
  before_by y x xs r Equal e h t = (e, h.1)
  before_by y x xs r Greater e h t = (e, h)

  before-inserted : (y : R) (xs : List R) (r : R) → c y r ≡ Less → Before o key y xs → Before o key y (inserted o key xs r)
  before-inserted y [] r e h = (e, tt)
  before-inserted y (x ∷ xs) r e h = before_by y x xs r (c x r) e h (before-inserted y xs r e h.1)

  rising_by : (x : R) (xs : List R) (r : R) (k : Ordering) → c x r ≡ k → Rising o key (x ∷ xs) → Rising o key (inserted o key xs r) → Rising o key (choose k (x ∷ inserted o key xs r) (r ∷ xs) (r ∷ x ∷ xs))
  rising_by x xs r Less e h t = (before-inserted x xs r e h.0, t)
  rising_by x xs r Equal e h t = (before-equal x r xs e h.0, h.1)
  rising_by x xs r Greater e h t = let l = less_from_greater x r e in ((l, before_less r x xs l h.0), h)

  pub stays_rising : StaysRising o key
  stays_rising [] r h = (tt, tt)
  stays_rising (x ∷ xs) r h = rising_by x xs r (c x r) refl h (stays_rising xs r h.1)

  all_rising : (xs rs : List R) → Rising o key xs → Rising o key (inserted_all o key xs rs)
  all_rising xs [] h = h
  all_rising xs (r ∷ rs) h = all_rising (inserted o key xs r) rs (stays_rising xs r h)

  pub rises : Rises o key
  rises rs = all_rising [] rs tt

  -- ---- an insertion sets its own key, and no other

  past_less : (x r : R) (k : K) (l m n : Option R) (j : Ordering) → o.cmp (key x) k ≡ j → c x r ≡ Less → n ≡ choose (o.cmp (key r) k) l m l → choose j n (Some x) n ≡ choose (o.cmp (key r) k) (choose j l (Some x) l) m (choose j l (Some x) l)
  past_less x r k l m n Less p e h = h
  past_less x r k l m n Equal p e h =
      let g : o.cmp (key r) k ≡ Greater = ap (o.cmp (key r)) (sym (o.equal (key x) k p)) ∙ greater_from_less x r e in
      sym (ap (λ q. choose q (Some x) m (Some x)) g)
  past_less x r k l m n Greater p e h = h

  over_equal : (l y z : Option R) (j : Ordering) → choose j l y l ≡ choose j (choose j l z l) y (choose j l z l)
  over_equal l y z Less = refl
  over_equal l y z Equal = refl
  over_equal l y z Greater = refl

  sets_by : (x : R) (xs : List R) (r : R) (k : K) (j : Ordering) → c x r ≡ j → lookup o key (inserted o key xs r) k ≡ choose (o.cmp (key r) k) (lookup o key xs k) (Some r) (lookup o key xs k) → lookup o key (choose j (x ∷ inserted o key xs r) (r ∷ xs) (r ∷ x ∷ xs)) k ≡ choose (o.cmp (key r) k) (lookup o key (x ∷ xs) k) (Some r) (lookup o key (x ∷ xs) k)
  sets_by x xs r k Less e h = past_less x r k (lookup o key xs k) (Some r) (lookup o key (inserted o key xs r) k) (o.cmp (key x) k) refl e h
  sets_by x xs r k Equal e h =
      let l = lookup o key xs k in
      let p : o.cmp (key r) k ≡ o.cmp (key x) k = ap (λ w. o.cmp w k) (sym (o.equal (key x) (key r) e)) in
      over_equal l (Some r) (Some x) (o.cmp (key r) k)
      ∙ ap (λ j. choose (o.cmp (key r) k) (choose j l (Some x) l) (Some r) (choose j l (Some x) l)) p
  sets_by x xs r k Greater e h = refl

  pub sets : Sets o key
  sets [] r k = refl
  sets (x ∷ xs) r k = sets_by x xs r k (c x r) refl (sets xs r k)

  -- ---- the last row that was given with a key stands

  later : (l f : Option R) (r : R) (j : Ordering) → or_else l (choose j f (Some r) f) ≡ or_else (or_else l (choose j None (Some r) None)) f
  later (Some x) f r j = refl
  later None f r Less = refl
  later None f r Equal = refl
  later None f r Greater = refl

  none_else : (l : Option R) → or_else l None ≡ l
  none_else (Some x) = refl
  none_else None = refl

  all_stand : (xs rs : List R) (k : K) → lookup o key (inserted_all o key xs rs) k ≡ or_else (last_of o key rs k) (lookup o key xs k)
  all_stand xs [] k = refl
  all_stand xs (r ∷ rs) k =
      all_stand (inserted o key xs r) rs k
      ∙ ap (or_else (last_of o key rs k)) (sets xs r k)
      ∙ later (last_of o key rs k) (lookup o key xs k) r (o.cmp (key r) k)

  pub last-stands : LastStands o key
  last-stands given k = all_stand [] given k ∙ none_else (last_of o key given k)

  -- ---- tables that have the same rows at each key are the same

  found : (x : R) (xs : List R) → lookup o key (x ∷ xs) (key x) ≡ Some x
  found x xs = ap (λ j. choose j (lookup o key xs (key x)) (Some x) (lookup o key xs (key x))) (itself (key x))

  missing : (x : R) (xs : List R) → Before o key x xs → lookup o key xs (key x) ≡ None
  missing x [] h = refl
  missing x (y ∷ ys) h =
      ap (λ j. choose j (lookup o key ys (key x)) (Some y) (lookup o key ys (key x))) (greater_from_less x y h.0) ∙ missing x ys h.1

  not_none : (x : R) → Some x ≡ None → ⊥
  not_none x e = true≢false (ap is_some e)

  apart : (x : R) (xs : List R) (y : R) (ys : List R) → c x y ≡ Less → Before o key y ys → lookup o key (x ∷ xs) (key x) ≡ lookup o key (y ∷ ys) (key x) → ⊥
  apart x xs y ys e h q = not_none x (sym (found x xs) ∙ q ∙ missing x (y ∷ ys) (e, before_less x y ys e h))

  rest_by : (x y : R) (xs ys : List R) (k : K) (j : Ordering) → o.cmp (key x) k ≡ j → x ≡ y → Before o key x xs → Before o key y ys → lookup o key (x ∷ xs) k ≡ lookup o key (y ∷ ys) k → lookup o key xs k ≡ lookup o key ys k
  rest_by x y xs ys k Less p e h g q =
      let p' : o.cmp (key y) k ≡ Less = ap (λ w. o.cmp (key w) k) (sym e) ∙ p in
      sym (ap (λ j. choose j (lookup o key xs k) (Some x) (lookup o key xs k)) p) ∙ q ∙ ap (λ j. choose j (lookup o key ys k) (Some y) (lookup o key ys k)) p'
  rest_by x y xs ys k Equal p e h g q =
      let s = o.equal (key x) k p in
      let t : key y ≡ k = ap key (sym e) ∙ s in
      ap (lookup o key xs) (sym s) ∙ missing x xs h ∙ sym (ap (lookup o key ys) (sym t) ∙ missing y ys g)
  rest_by x y xs ys k Greater p e h g q =
      let p' : o.cmp (key y) k ≡ Greater = ap (λ w. o.cmp (key w) k) (sym e) ∙ p in
      sym (ap (λ j. choose j (lookup o key xs k) (Some x) (lookup o key xs k)) p) ∙ q ∙ ap (λ j. choose j (lookup o key ys k) (Some y) (lookup o key ys k)) p'

  first_by : (x : R) (xs : List R) (y : R) (ys : List R) (j : Ordering) → c x y ≡ j → Before o key x xs → Before o key y ys → ((k : K) → lookup o key (x ∷ xs) k ≡ lookup o key (y ∷ ys) k) → x ≡ y
  first_by x xs y ys Less e h g q = absurd (apart x xs y ys e g (q (key x)))
  first_by x xs y ys Equal e h g q =
      let s : lookup o key (y ∷ ys) (key x) ≡ Some y = ap (lookup o key (y ∷ ys)) (o.equal (key x) (key y) e) ∙ found y ys in
      ap (λ m. unwrap_or m x) (sym (found x xs) ∙ q (key x) ∙ s)
  first_by x xs y ys Greater e h g q = absurd (apart y ys x xs (less_from_greater x y e) h (sym (q (key y))))

  pub determined : Determined o key
  determined [] [] h g q = refl
  determined [] (y ∷ ys) h g q = absurd (not_none y (sym (found y ys) ∙ sym (q (key y))))
  determined (x ∷ xs) [] h g q = absurd (not_none x (sym (found x xs) ∙ q (key x)))
  determined (x ∷ xs) (y ∷ ys) h g q =
      let e = first_by x xs y ys (c x y) refl h.0 g.0 q in
      let t = determined xs ys h.1 g.1 (λ k. rest_by x y xs ys k (o.cmp (key x) k) refl e h.0 g.0 (q k)) in
      λ i. e i ∷ t i

  -- ---- the rows of a table, inserted in order, are that table

  before_mid : (x : R) (xs : List R) (y : R) (ys : List R) → Before o key x (xs ++ y ∷ ys) → c x y ≡ Less
  before_mid x [] y ys h = h.0
  before_mid x (z ∷ zs) y ys h = before_mid x zs y ys h.1

  inserted-last : (xs : List R) (r : R) (rs : List R) → Rising o key (xs ++ r ∷ rs) → inserted o key xs r ≡ xs ++ r ∷ []
  inserted-last [] r rs h = refl
  inserted-last (x ∷ xs) r rs h =
      ap (λ j. choose j (x ∷ inserted o key xs r) (r ∷ xs) (r ∷ x ∷ xs)) (before_mid x xs r rs h.0) ∙ ap (λ ys. x ∷ ys) (inserted-last xs r rs h.1)

  pub all_last : (xs rs : List R) → Rising o key (xs ++ rs) → inserted_all o key xs rs ≡ xs ++ rs
  all_last xs [] h = sym (append-nil xs)
  all_last xs (r ∷ rs) h =
      let e : (xs ++ r ∷ []) ++ rs ≡ xs ++ r ∷ rs = append_assoc xs (r ∷ []) rs in
      ap (λ ys. inserted_all o key ys rs) (inserted-last xs r rs h) ∙ all_last (xs ++ r ∷ []) rs (subst (Rising o key) (sym e) h) ∙ e

  pub again : Again o key
  again xs h = all_last [] xs h

  -- ---- where more rows are given, the table has as many rows or more

  longer_by : (x : R) (xs : List R) (r : R) (k : Ordering) → length xs ≤ length (inserted o key xs r) → length (x ∷ xs) ≤ length (choose k (x ∷ inserted o key xs r) (r ∷ xs) (r ∷ x ∷ xs))
  longer_by x xs r Less h = omega arith
  longer_by x xs r Equal h = omega arith
  longer_by x xs r Greater h = omega arith

  longer : (xs : List R) (r : R) → length xs ≤ length (inserted o key xs r)
  longer [] r = omega arith
  longer (x ∷ xs) r = longer_by x xs r (c x r) (longer xs r)

  longer_all : (xs rs : List R) → length xs ≤ length (inserted_all o key xs rs)
  longer_all xs [] = omega arith
  longer_all xs (r ∷ rs) = let h = longer xs r in let k = longer_all (inserted o key xs r) rs in omega arith

  all_append : (xs rs ss : List R) → inserted_all o key xs (rs ++ ss) ≡ inserted_all o key (inserted_all o key xs rs) ss
  all_append xs [] ss = refl
  all_append xs (r ∷ rs) ss = all_append (inserted o key xs r) rs ss

  pub tabled-more : (given : List R) (r : R) → tabled o key (given ++ r ∷ []) ≡ inserted o key (tabled o key given) r
  tabled-more given r = all_append [] given (r ∷ [])

  pub grows : Grows o key
  grows given more =
      let e = ap length (all_append [] given more) in
      let h = longer_all (tabled o key given) more in
      omega arith
