-- The head of a filing: what is known of its length, and that it lies at the front of the work bytes.
use Rattle.std.proofs.Common.{◌≡◌, ℕ, ◌<◌, ◌≤◌, min, Bool, true, ltb, leb, List, length, take, Ok, Err, Result, sym, refl, ap, ◌∙◌, ⊎_elim, arith}
use Rattle.std.proofs.lemmas.Bool.{cases_Bool, cases_lt, le-leb, lt-leb, cond-true, cond-false}
use Rattle.wire.specs.declared.refusal.Fault.{Fault}
use Rattle.facts.specs.Head.{fitted, length_of}
use Rattle.shelf.specs.Contents.{Contents}
use Rattle.shelf.specs.Calls.{refused, if_room, head_for}

roomy : (b : Bool) (r : Result (List ℕ) Fault) → b ≡ true → if_room b r ≡ r
roomy b (Ok h) e = cond-true b (Ok h) (refused 32) e
roomy b (Err f) e = refl

-- with fewer work bytes than a strip is long nothing fits
without-room : (c : Contents) (work : ℕ) (x : List ℕ) → work < c.strip → head_for c work (Ok x) ≡ refused 32
without-room c work x l =
    ⊎_elim
    (λ e. ap (if_room (leb c.strip work)) (cond-true (ltb (min c.strip 16777216) (length x)) (refused 32) (Ok x) e))
    (λ e. ap (if_room (leb c.strip work)) (cond-false (ltb (min c.strip 16777216) (length x)) (refused 32) (Ok x) e) ∙ cond-false (leb c.strip work) (Ok x) (refused 32) (lt-leb c.strip work l))
    (cases_Bool (ltb (min c.strip 16777216) (length x)))

-- a head is no longer than a strip, and then the work bytes are enough
pub made_fits : (c : Contents) (work : ℕ) (from : Result (List ℕ) Fault) (h : List ℕ) → head_for c work from ≡ Ok h → (fitted c.strip from ≡ Ok h) × (c.strip ≤ work)
made_fits c work (Err x) h f = let z : ◌≡◌ {A = ℕ} 0 1 = cc in absurd (omega arith)
made_fits c work (Ok x) h f =
    ⊎_elim
    (λ l. let q = without-room c work x l in let z : ◌≡◌ {A = ℕ} 0 1 = cc in absurd (omega arith))
    (λ l. (sym (roomy (leb c.strip work) (fitted c.strip (Ok x)) (le-leb c.strip work l)) ∙ f, l))
    (cases_lt work c.strip)

-- so many of the bytes as the head is long are the head
pub head_taken : (r : Result (List ℕ) Fault) (n : ℕ) (bytes : List ℕ) → Ok n ≡ length_of r → ((h : List ℕ) → r ≡ Ok h → take (length h) bytes ≡ h) → Ok (take n bytes) ≡ r
head_taken (Ok h) n bytes e made = let same : n ≡ length h = cc in ap (λ (k : List ℕ). Ok k) (ap (λ (m : ℕ). take m bytes) same ∙ made h refl)
head_taken (Err x) n bytes e made = let z : ◌≡◌ {A = ℕ} 0 1 = cc in absurd (omega arith)
