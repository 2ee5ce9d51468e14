-- A count and that many items are read again, where the items are.
use Rattle.std.proofs.Common.{◌≡◌, ℕ, zero, suc, ◌+◌, ◌<◌, ◌≤◌, cond, ltb, List, [], ◌∷◌, ◌++◌, length, Ok, Err, Result, refl, ap, ◌∙◌, subst, arith}
use Rattle.std.specs.List.{flat_map, AllByRecursion as All}
use Rattle.std.proofs.lemmas.List.{append_assoc, length-append}
use Rattle.std.proofs.lemmas.Bool.{cond-false, le-ltb}
use Rattle.wire.specs.declared.order.ByteOrder.{ByteOrder}
use Rattle.wire.specs.declared.order.ByteOrder.TheVariants.{Little}
use Rattle.wire.specs.declared.refusal.Fault.{Fault}
use Rattle.wire.proofs.Digits.{length-bytes_of}
use Rattle.simpleperf.specs.Parse.{Got, got, and_then, items}
use Rattle.simpleperf.specs.Tables.{fault_at, u32_in, count_in, counted}
use Rattle.facts.specs.Written.{u32, counted_bytes}
use Rattle.symbols_read_back.proofs.Law.{Parser, Law, got-is, and_then_ok}
use Rattle.symbols_read_back.proofs.Parts.{Fits, u32_law, tested_ok}

-- ---- a count

-- what a count that was read tells: it is as the number before its test
count_ok : (o : ByteOrder) (n : ℕ) (s : List ℕ) (g : Got ℕ) → count_in o n s ≡ Ok g → u32_in o n s ≡ Ok g
count_ok o n s g e =
    let (h, eh, e') = and_then_ok (u32_in o n s) (λ k t. cond (ltb (length t) k) (Err (fault_at 14 n s)) (got k t)) g e in
    let (below, f) = tested_ok (ltb (length h.rest) h.value) (fault_at 14 n s) (got h.value h.rest) g e' in
    eh ∙ f

-- a count is read again where as many bytes follow
count-again : (n k : ℕ) (t : List ℕ) → Fits 4 k → k ≤ length t → count_in Little n (u32 k ++ t) ≡ got k t
count-again n k t f enough =
    let bad = fault_at 14 n (u32 k ++ t) in
    ap (λ x. and_then x (λ j u. cond (ltb (length u) j) (Err bad) (got j u))) (u32_law.again k f n t)
    ∙ cond-false (ltb (length t) k) (Err bad) (got k t) (le-ltb (length t) k enough)

module _
    {V : Type 0}
    {parse : Parser V}
    {print : V → List ℕ}
    {Fine : V → Type 0}
    (law : Law parse print Fine 0)
  where
    -- ---- so many items

    -- what they tell
    record Listed (k : ℕ) (s : List ℕ) (g : Got (List V)) : Type 0 where
      fine : All Fine g.value
      count : length g.value ≡ k
      short : length (flat_map print g.value) + length g.rest ≤ length s

    listed : (o : ByteOrder) (n k : ℕ) (s : List ℕ) (g : Got (List V)) → length s ≤ 16777216 → items (parse o n) k s ≡ Ok g → Listed k s g
    unfolding items
    listed o n zero s g b e = subst (Listed zero s) (got-is [] s g e) (record { fine = tt; count = refl; short = omega arith })
    listed o n (suc k) s g b e =
        let (h, eh, e') = and_then_ok (parse o n s) (λ v t. and_then (items (parse o n) k t) (λ vs u. got (v ∷ vs) u)) g e in
        let (r, er, e'') = and_then_ok (items (parse o n) k h.rest) (λ vs u. got (h.value ∷ vs) u) g e' in
        let d = law.short o n s h b eh in
        let l = listed o n k h.rest r (omega arith) er in
        subst (Listed (suc k) s) (got-is (h.value ∷ r.value) r.rest g e'')
        (record { fine = (law.fine o n s h b eh, l.fine); count = ap suc l.count; short = omega (arith, length-append (print h.value) (flat_map print r.value), l.short) })

    items-again : (vs : List V) → All Fine vs → (n : ℕ) (t : List ℕ) → items (parse Little n) (length vs) (flat_map print vs ++ t) ≡ got vs t
    unfolding items
    items-again [] f n t = refl
    items-again (v ∷ vs) f n t =
        let next : V → List ℕ → Result (Got (List V)) Fault = λ x u. and_then (items (parse Little n) (length vs) u) (λ xs w. got (x ∷ xs) w) in
        ap (λ x. and_then (parse Little n x) next) (append_assoc (print v) (flat_map print vs) t)
        ∙ ap (λ x. and_then x next) (law.again v f.0 n (flat_map print vs ++ t))
        ∙ ap (λ x. and_then x (λ xs w. got (v ∷ xs) w)) (items-again vs f.1 n t)

    -- ---- the count before them

    -- A list that a count of four bytes can count.
    abbrev pub Counted : List V → Type 0
    Counted vs = All Fine vs × Fits 4 (length vs)

    -- Each item has a byte at least, so the count is within the bytes that follow it.
    enough : ((v : V) → 0 < length (print v)) → (vs : List V) → length vs ≤ length (flat_map print vs)
    enough some [] = omega arith
    enough some (v ∷ vs) = omega (arith, some v, enough some vs, length-append (print v) (flat_map print vs))

    pub counted_law : ((v : V) → 0 < length (print v)) → Law (counted parse) (counted_bytes print) Counted 0
    counted_law some =
        record {
          fine = λ o n s g b e.
              let (k, ek, e') = and_then_ok (count_in o n s) (items (parse o n)) g e in
              let c = count_ok o n s k ek in
              let d = u32_law.short o n s k b c in
              let l = listed o n k.value k.rest g (omega arith) e' in
              (l.fine, rw l.count (u32_law.fine o n s k b c));
          again = λ vs f n t.
              let j = flat_map print vs in
              ap (λ x. and_then (count_in Little n x) (items (parse Little n))) (append_assoc (u32 (length vs)) j t)
              ∙ ap (λ x. and_then x (items (parse Little n))) (count-again n (length vs) (j ++ t) f.1 (omega (arith, enough some vs, length-append j t)))
              ∙ items-again vs f.0 n t;
          short = λ o n s g b e.
              let (k, ek, e') = and_then_ok (count_in o n s) (items (parse o n)) g e in
              let d = u32_law.short o n s k b (count_ok o n s k ek) in
              let l = listed o n k.value k.rest g (omega arith) e' in
              omega (arith, l.short, length-append (u32 (length g.value)) (flat_map print g.value), length-bytes_of 4 (length g.value), length-bytes_of 4 k.value);
        }
