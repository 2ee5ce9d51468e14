-- A map of one section.
use Rattle.std.specs.Prelude.{◌≡◌, ℕ, ◌<◌, ◌≤◌, cond, List, length, IfSome, Some, None, Option, ◌==◌, nat_lt}
use Rattle.std.proofs.lemmas.Bool.{lt-ltb, ltb-false, cond-true, cond_both}
use Rattle.image.specs.Held.{Features}
use Rattle.section_store.specs.declared.SectionStore.{SectionStore}

-- The bytes that a feature has, unless they are too many.
abbrev pub unless_long : List ℕ → Option (List ℕ)
unless_long bytes = cond (nat_lt 16777216 (length bytes)) None (Some bytes)

-- Some bytes stand for one feature, if that is at most 255, and nothing for the others.
abbrev pub section_of : ℕ → List ℕ → ℕ → Option (List ℕ)
section_of feature bytes n = cond (nat_lt 255 n) None (cond (n == feature) (unless_long bytes) None)

pub section_low : (feature : ℕ) (bytes : List ℕ) (n : ℕ) → 255 < n → section_of feature bytes n ≡ None
section_low feature bytes n h = cond-true _ _ _ (lt-ltb 255 n h)

pub section_short : (feature : ℕ) (bytes : List ℕ) (n : ℕ) → IfSome (section_of feature bytes n) (λ b. length b ≤ 16777216)
section_short feature bytes n =
    let F : Option (List ℕ) → Type 0 = λ o. IfSome o (λ b. length b ≤ 16777216) in
    cond_both (nat_lt 255 n) None _ F (λ _. tt) (λ _.
    cond_both (n == feature) (unless_long bytes) None F (λ _.
    cond_both (nat_lt 16777216 (length bytes)) None (Some bytes) F (λ _. tt) (λ e. ltb-false 16777216 (length bytes) e)) (λ _. tt))

abbrev pub features_in : ℕ → List ℕ → Features
features_in feature bytes = record { at = section_of feature bytes; low = section_low feature bytes; short = section_short feature bytes }

-- No number has a section.
abbrev pub LacksAll : Features → Type 0
LacksAll f = (n : ℕ) → f.at n ≡ None

abbrev pub features_of : SectionStore → Features
features_of s = features_in s.feature s.bytes.now
