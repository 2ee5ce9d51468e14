-- The law of a list gives that of its table.
use Rattle.std.proofs.Common.{◌≡◌, ℕ, ◌+◌, ◌≤◌, List, [], ◌∷◌, length, Ok, Result, Ordering, Less, Equal, Greater, refl, ap, ◌∙◌, subst, arith}
use Rattle.std.specs.List.{flat_map, AllByRecursion as All}
use Rattle.std.proofs.lemmas.List.{length-append}
use Rattle.wire.specs.declared.order.ByteOrder.{ByteOrder}
use Rattle.wire.specs.declared.order.ByteOrder.TheVariants.{Little}
use Rattle.wire.specs.declared.refusal.Fault.{Fault}
use Rattle.table.specs.Order.{Order}
use Rattle.table.specs.Table.{choose, inserted, inserted_all, tabled}
use Rattle.table.proofs.Stand.{rises, again}
use Rattle.mappings.specs.Tables.{table_by}
use Rattle.facts.specs.Laws.{ReadsBack}
use Rattle.read_back.proofs.Law.{Law, formed_ok}

module _ {K X : Type 0} (o : Order K) (key : X → K) where
  -- ---- every row of a table is one of the rows given

  module _ (P : X → Type 0) where
    all_by : (x : X) (xs : List X) (r : X) (k : Ordering) → P x → All P xs → P r → All P (inserted o key xs r) → All P (choose k (x ∷ inserted o key xs r) (r ∷ xs) (r ∷ x ∷ xs))
    all_by x xs r Less p ps q more = (p, more)
    all_by x xs r Equal p ps q more = (q, ps)
    all_by x xs r Greater p ps q more = (q, (p, ps))

    all_inserted : (xs : List X) (r : X) → All P xs → P r → All P (inserted o key xs r)
    all_inserted [] r ps q = (q, tt)
    all_inserted (x ∷ xs) r ps q = all_by x xs r (o.cmp (key x) (key r)) ps.0 ps.1 q (all_inserted xs r ps.1 q)

    all_inserted_all : (xs rs : List X) → All P xs → All P rs → All P (inserted_all o key xs rs)
    all_inserted_all xs [] ps qs = ps
    all_inserted_all xs (r ∷ rs) ps qs = all_inserted_all (inserted o key xs r) rs (all_inserted xs r ps qs.0) qs.1

    pub all_tabled : (given : List X) → All P given → All P (tabled o key given)
    all_tabled given ps = all_inserted_all [] given tt ps

  -- ---- a table weighs no more than the rows given

  module _ (print : X → List ℕ) where
    abbrev weight : List X → ℕ
    weight xs = length (flat_map print xs)

    weight_more : (x : X) (xs : List X) → weight (x ∷ xs) ≡ length (print x) + weight xs
    weight_more x xs = length-append (print x) (flat_map print xs)

    weight_by : (x : X) (xs : List X) (r : X) (k : Ordering) → weight (inserted o key xs r) ≤ length (print r) + weight xs → weight (choose k (x ∷ inserted o key xs r) (r ∷ xs) (r ∷ x ∷ xs)) ≤ length (print r) + weight (x ∷ xs)
    weight_by x xs r Less h = omega (arith, weight_more x (inserted o key xs r), weight_more x xs)
    weight_by x xs r Equal h = omega (arith, weight_more r xs, weight_more x xs)
    weight_by x xs r Greater h = omega (arith, weight_more r (x ∷ xs))

    weight_inserted : (xs : List X) (r : X) → weight (inserted o key xs r) ≤ length (print r) + weight xs
    weight_inserted [] r = omega (arith, weight_more r [])
    weight_inserted (x ∷ xs) r = weight_by x xs r (o.cmp (key x) (key r)) (weight_inserted xs r)

    weight_all : (xs rs : List X) → weight (inserted_all o key xs rs) ≤ weight xs + weight rs
    weight_all xs [] = omega arith
    weight_all xs (r ∷ rs) = omega (arith, weight_all (inserted o key xs r) rs, weight_inserted xs r, weight_more r rs)

    pub tabled_lighter : (given : List X) → length (flat_map print (tabled o key given)) ≤ length (flat_map print given)
    tabled_lighter given = omega (arith, weight_all [] given)

  abbrev one : X → List ℕ
  one x = 0 ∷ []

  length_ones : (xs : List X) → length (flat_map one xs) ≡ length xs
  length_ones [] = refl
  length_ones (x ∷ xs) = omega (arith, length_ones xs)

  pub tabled_fewer : (given : List X) → length (tabled o key given) ≤ length given
  tabled_fewer given = omega (arith, tabled_lighter one given, length_ones (tabled o key given), length_ones given)

  -- ---- a table is read again

  tabled_ok : (r : Result (List X) Fault) (ts : List X) → table_by o key r ≡ Ok ts → (xs : List X) × (r ≡ Ok xs) × (tabled o key xs ≡ ts)
  tabled_ok = formed_ok (table_by o key) (tabled o key) (λ f. f) (λ xs. refl) (λ f. refl)

  module _ (parse : ByteOrder → List ℕ → Result (List X) Fault) (print : List X → List ℕ) (Fine : List X → Type 0) (law : Law parse print Fine)
      (keeps : (xs : List X) → Fine xs → Fine (tabled o key xs)) (lighter : (xs : List X) → length (print (tabled o key xs)) ≤ length (print xs)) where
    pub tabled_back : ReadsBack (λ b s. table_by o key (parse b s)) print
    tabled_back =
        record {
          again = λ b s ts l e.
              let (xs, p, q) = tabled_ok (parse b s) ts e in
              let f = keeps xs (law.fine b s xs l p) in
              subst (λ (x : List X). table_by o key (parse Little (print x)) ≡ Ok x) q (ap (table_by o key) (law.again (tabled o key xs) f) ∙ ap Ok (again o key (tabled o key xs) (rises o key xs)));
          short = λ b s ts l e.
              let (xs, p, q) = tabled_ok (parse b s) ts e in
              omega (arith, lighter xs, law.short b s xs l p, ap (λ (x : List X). length (print x)) q);
        }
