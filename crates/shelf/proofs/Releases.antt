-- What a release does at the group's place.
use Rattle.std.proofs.Common.{◌≡◌, ℕ, ◌-◌, ◌<◌, ◌≤◌, sym, ap, ◌∙◌}
use Rattle.std.proofs.lemmas.Bool.{cond-true, cond-false, lt-ltb, le-ltb}
use Rattle.shelf.specs.Contents.{Contents, row_in, put, blank}
use Rattle.shelf.specs.Calls.{recount, lowered}

pub lowered-one : (c : Contents) (i n : ℕ) → 1 < (row_in c i).count → n ≡ (row_in c i).count - 1 → put c i (recount (row_in c i) n) ≡ lowered c i
lowered-one c i n l e = ap (λ (k : ℕ). put c i (recount (row_in c i) k)) e ∙ sym (cond-true _ _ _ (lt-ltb 1 (row_in c i).count l))

pub lowered-last : (c : Contents) (i : ℕ) → (row_in c i).count ≤ 1 → put c i (blank c.strip) ≡ lowered c i
lowered-last c i l = sym (cond-false _ _ _ (le-ltb 1 (row_in c i).count l))
