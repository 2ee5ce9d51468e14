-- One more row in the rows of a table.
use Rattle.std.proofs.Common.{◌≡◌, ℕ, ◌+◌, ◌-◌, ◌<◌, ◌≤◌, List, [], ◌∷◌, ◌++◌, length, take, drop, set, Some, None, Ok, Err, Option, Result, sym, ap, ◌∙◌, subst, arith}
use Rattle.std.specs.List as holes
use Rattle.std.proofs.lemmas.List.{take_at, take-append-le, drop_at, drop-append-le, drop-drop, drop-replicate, set-append_left, length-set, length-drop, append_assoc}
use Rattle.std.proofs.lemmas.List.Edits.{length-insert}
use Rattle.table.specs.Order.{Order}
use Rattle.table.specs.Rows.{blank, blanks}
use Rattle.table.specs.Table.{Rising, tabled, placed}
use Rattle.table.specs.Fills.{Holds}
use Rattle.table.specs.declared.row.Row.{Row}
use Rattle.table.proofs.Puts.{put-at, put_between}
use Rattle.table.proofs.Stand.{rises, tabled-more, grows}

module _ {K : Type 0} (o : Order K) (key : Row → K) (given rows : List Row) (r : Row) where
  abbrev old : List Row
  old = tabled o key given

  abbrev new : List Row
  new = tabled o key (given ++ r ∷ [])

  -- what rows hold before the row is given, and then
  abbrev Before : Option ℕ → Type 0
  Before used = Holds old used rows

  abbrev After : Option ℕ → List Row → Type 0
  After used after = Holds new used after

  -- once over, always over
  pub still_over : (used : Option ℕ) → used ≡ None → Before used → After used rows
  still_over used e =
      subst (λ u. Before u → After u rows) (sym e)
      (λ h. let l = grows o key given (r ∷ []) in (omega arith, h.1))

  module _ (used : ℕ) (fill : Before (Some used)) where
    whole : used ≡ length old
    whole = fill.0

    after_old : rows ≡ old ++ blanks (length rows - used)
    after_old = fill.2

    front : take used rows ≡ old
    front = ap (take used) after_old ∙ take_at old (blanks (length rows - used)) used (sym whole)

    at : (p : Result ℕ ℕ) → (Rising o key (take used rows) → p ≡ placed o key (take used rows) r) → p ≡ placed o key old r
    at p is = is (subst (Rising o key) (sym front) (rises o key given)) ∙ ap (λ xs. placed o key xs r) front

    -- over the row i, which has its key
    pub over_same : (i : ℕ) → (Rising o key (take used rows) → Ok i ≡ placed o key (take used rows) r) → (after : List Row) → after ≡ set rows i r → After (Some used) after
    over_same i is after after_is =
        let put = put-at o key old r i (at (Ok i) is) in
        let e : new ≡ set old i r = tabled-more o key given r ∙ put.1 in
        let l : length new ≡ length old = ap length e ∙ length-set old i r in
        let m : length after ≡ length rows = ap length after_is ∙ length-set rows i r in
        let w = whole in
        let f = fill.1 in
        let b : length rows - used ≡ length after - used = omega arith in (
          omega arith,
          omega arith,
          after_is ∙ ap (λ xs. set xs i r) after_old ∙ set-append_left old (blanks (length rows - used)) i r put.0 ∙ (λ j. sym e j ++ blanks (b j)),
        )

    -- between the rows i - 1 and i
    module _ (i : ℕ) (is : Rising o key (take used rows) → Err i ≡ placed o key (take used rows) r) where
      within : i ≤ length old
      within = (put_between o key old r i (at (Err i) is)).0

      new_is : new ≡ holes.insert old i r
      new_is = tabled-more o key given r ∙ (put_between o key old r i (at (Err i) is)).1

      one_more : length new ≡ used + 1
      one_more = let l = ap length new_is ∙ length-insert old i r within in let w = whole in omega arith

      -- there is no row for it
      pub one_too_many : used ≡ length rows → (after : List Row) → length after ≡ length rows → after ≡ blanks (length rows) → After None after
      one_too_many full after same blank-is = let l = one_more in (omega arith, blank-is ∙ ap blanks (sym same))

      pub put-more : used < length rows → (after : List Row) → length after ≡ length rows → after ≡ take i rows ++ (r ∷ (take (used - i) (drop i rows) ++ drop (used + 1) rows)) → After (Some (used + 1)) after
      put-more room after same after_is =
          let l = one_more in
          let w = whole in
          let inside = within in
          let b = blanks (length rows - used) in
          let head : take i rows ≡ take i old = ap (take i) after_old ∙ take-append-le i old b inside in
          let long : length (drop i old) ≡ used - i = let k = length-drop i old in omega arith in
          let mid : take (used - i) (drop i rows) ≡ drop i old = ap (take (used - i)) (ap (drop i) after_old ∙ drop-append-le i old b inside) ∙ take_at (drop i old) b (used - i) long in
          let count : length rows - used - 1 ≡ length after - (used + 1) = omega arith in
          let tail : drop (used + 1) rows ≡ blanks (length after - (used + 1)) =
          sym (drop-drop 1 used rows) ∙ ap (drop 1) (ap (drop used) after_old ∙ drop_at old b used (sym w)) ∙ drop-replicate 1 (length rows - used) blank ∙ ap blanks count in (
            sym l,
            omega arith,
            after_is ∙ (λ j. head j ++ (r ∷ (mid j ++ tail j))) ∙ sym (append_assoc (take i old) (r ∷ drop i old) (blanks (length after - (used + 1)))) ∙ ap (λ xs. xs ++ blanks (length after - (used + 1))) (sym new_is),
          )
