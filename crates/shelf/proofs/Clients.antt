-- Two filings, one after the other, from the opening on.
use Rattle.std.proofs.Common.{ℕ, eqb, [], ◌∷◌, Ok, Decides, refl, inl, inr, arith}
use Rattle.std.proofs.lemmas.Bool.{eqb-true, eq-eqb}
use Rattle.shelf.specs.Contents.{Contents}
use Rattle.shelf.specs.Histories.{Filing}
use Rattle.shelf.specs.Histories.Event.{filed}
use Rattle.shelf.specs.Law.{AlikeFiled, Goes, Continues}

pub two_filings : (x y : Filing) (g k : ℕ) (b c d : Contents) → Goes [] b → Continues b (filed x (Ok g)) c → Continues c (filed y (Ok k)) d → Decides (eqb g k) (AlikeFiled x y)
two_filings x y g k b c d opened first second =
    let one = first [] opened.ran in
    let two = second (filed x (Ok g) ∷ []) one.ran in
    let same = two.same x y g k (inr (inl (refl, refl))) (inl (refl, refl)) (omega (arith, one.lawful.0.holds)) two.lawful.0.holds in
    (λ e. same.0 (eqb-true g k e), λ e. eq-eqb g k (same.1 e))
