-- Heads that fit into the room for them.
use Rattle.std.proofs.Common.{◌≡◌, ℕ, ◌≤◌, min, true, false, ltb, List, length, Ok, Err, Result, sym, ap, ◌∙◌, ⊎_elim, arith}
use Rattle.std.proofs.lemmas.Bool.{cases_Bool, ltb-false, cond-true, cond-false}
use Rattle.wire.specs.Faults.{state_fault}
use Rattle.wire.specs.declared.refusal.Fault.{Fault}
use Rattle.facts.specs.Head.{fitted}

-- what a head that fits is
pub record Fitting (room : ℕ) (from : Result (List ℕ) Fault) (h : List ℕ) : Type 0 where
  pub is : from ≡ Ok h
  pub within : length h ≤ room
  pub short : length h ≤ 16777216

pub fitting : (room : ℕ) (from : Result (List ℕ) Fault) (h : List ℕ) → fitted room from ≡ Ok h → Fitting room from h
fitting room (Err e) h f = let z : ◌≡◌ {A = ℕ} 0 1 = cc in absurd (omega arith)
fitting room (Ok x) h f = ⊎_elim long short (cases_Bool (ltb (min room 16777216) (length x)))
  where
    long : ltb (min room 16777216) (length x) ≡ true → Fitting room (Ok x) h
    long e =
        let r : Err (state_fault 32 256) ≡ Ok h = sym (cond-true (ltb (min room 16777216) (length x)) (Err (state_fault 32 256)) (Ok x) e) ∙ f in
        let z : ◌≡◌ {A = ℕ} 0 1 = cc in
        absurd (omega arith)

    short : ltb (min room 16777216) (length x) ≡ false → Fitting room (Ok x) h
    short e =
        let r : Ok x ≡ Ok h = sym (cond-false (ltb (min room 16777216) (length x)) (Err (state_fault 32 256)) (Ok x) e) ∙ f in
        let same : x ≡ h = cc in
        let l = ltb-false (min room 16777216) (length x) e in
        record { is = r; within = omega (arith, ap length same); short = omega (arith, ap length same) }
