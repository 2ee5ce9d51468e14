-- Items up to the end of some bytes are read again, where each item is.
use Rattle.std.proofs.Common.{◌≡◌, ℕ, zero, suc, ◌*◌, ◌<◌, ◌≤◌, List, [], ◌∷◌, ◌++◌, length, Ok, Err, Result, refl, ap, ◌∙◌, subst, arith}
use Rattle.std.specs.List.{flat_map, AllByRecursion as All}
use Rattle.std.proofs.lemmas.List.{length-append}
use Rattle.wire.specs.declared.order.ByteOrder.{ByteOrder}
use Rattle.wire.specs.declared.order.ByteOrder.TheVariants.{Little}
use Rattle.wire.specs.declared.refusal.Fault.{Fault}
use Rattle.simpleperf.specs.Parse.{Got, before, then_run, run_of}
use Rattle.simpleperf.proofs.Items.{not_ok}
use Rattle.symbols_read_back.proofs.Law.{Parser, Law}

before_ok : {V : Type 0} (v : V) (r : Result (List V) Fault) (vs : List V) → before v r ≡ Ok vs → (ws : List V) × (r ≡ Ok ws) × (v ∷ ws ≡ vs)
before_ok v (Ok ws) vs e = (ws, refl, cc)
before_ok v (Err f) vs e = not_ok f vs e

-- an item was read, and others behind it
then_run_ok : {V : Type 0} (r : Result (Got V) Fault) (k : List ℕ → Result (List V) Fault) (vs : List V) → then_run r k ≡ Ok vs → (g : Got V) × (ws : List V) × (r ≡ Ok g) × (k g.rest ≡ Ok ws) × (g.value ∷ ws ≡ vs)
then_run_ok (Ok g) k vs e = let (ws, ew, q) = before_ok g.value (k g.rest) vs e in (g, ws, refl, ew, q)
then_run_ok (Err f) k vs e = not_ok f vs e

-- one item at the front
next : {V : Type 0} (item : List ℕ → Result (Got V) Fault) (k : ℕ) (s : List ℕ) → 0 < length s → run_of item (suc k) s ≡ then_run (item s) (run_of item k)
unfolding run_of
next item k [] h = absurd (omega arith)
next item k (b ∷ s) h = refl

-- An item is written as more than twice the bytes that it may have more than it was read from.
module _
    {V : Type 0}
    {parse : Parser V}
    {print : V → List ℕ}
    {Fine : V → Type 0}
    {more : ℕ}
    (law : Law parse print Fine more)
    (wide : (v : V) → 2 * more < length (print v))
  where
    -- So a run is written as at most twice the bytes that it was read from.
    pub record Ran (s : List ℕ) (vs : List V) : Type 0 where
      pub fine : All Fine vs
      pub short : length (flat_map print vs) ≤ 2 * length s

    pub ran : (o : ByteOrder) (n k : ℕ) (s : List ℕ) (vs : List V) → length s ≤ 16777216 → run_of (parse o n) k s ≡ Ok vs → Ran s vs
    unfolding run_of
    ran o n k [] vs b e = let q : [] ≡ vs = cc in subst (Ran []) q (record { fine = tt; short = omega arith })
    ran o n zero (x ∷ s) vs b e = let q : [] ≡ vs = cc in subst (Ran (x ∷ s)) q (record { fine = tt; short = omega arith })
    ran o n (suc k) (x ∷ s) vs b e =
        let (g, ws, eg, ew, q) = then_run_ok (parse o n (x ∷ s)) (run_of (parse o n) k) vs e in
        let d = law.short o n (x ∷ s) g b eg in
        let w = wide g.value in
        let l = ran o n k g.rest ws (omega arith) ew in
        subst (Ran (x ∷ s)) q
        (record { fine = (law.fine o n (x ∷ s) g b eg, l.fine); short = omega (arith, length-append (print g.value) (flat_map print ws), l.short) })

    pub run-again : (vs : List V) → All Fine vs → (n k : ℕ) → length (flat_map print vs) ≤ k → run_of (parse Little n) k (flat_map print vs) ≡ Ok vs
    unfolding run_of
    run-again [] f n k h = refl
    run-again (v ∷ vs) f n zero h = absurd (omega (arith, length-append (print v) (flat_map print vs), wide v))
    run-again (v ∷ vs) f n (suc k) h =
        let l = length-append (print v) (flat_map print vs) in
        let w = wide v in
        next (parse Little n) k (print v ++ flat_map print vs) (omega arith)
        ∙ ap (λ r. then_run r (run_of (parse Little n) k)) (law.again v f.0 n (flat_map print vs))
        ∙ ap (before v) (run-again vs f.1 n k (omega arith))
