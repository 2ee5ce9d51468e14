-- Splitting at NULs: the pieces have none, and joined they are the section.
use Rattle.std.proofs.Common.{◌≡◌, ℕ, suc, true, false, eqb, List, [], ◌∷◌, refl, ap, ◌∙◌, ⊎_elim}
use Rattle.std.proofs.lemmas.Bool.{cases_Bool, eqb-true}
use Rattle.text.specs.Strings.{before_nul}
use Rattle.mappings.specs.MetaInfo.{Piece, longer, pieces}
use Rattle.mappings.specs.Laws.{rejoined, Bare, Splits}

-- There is a first piece, and a section has one more in front behind a NUL.
abbrev SomePiece : List Piece → Type 0
SomePiece [] = ⊥
SomePiece (p ∷ ps) = Unit {0}

none_bare : before_nul [] ≡ []
unfolding before_nul
none_bare = refl

more_bare : (b : ℕ) (t : List ℕ) → eqb b 0 ≡ false → before_nul t ≡ t → before_nul (b ∷ t) ≡ b ∷ t
unfolding before_nul
more_bare b t e h = rw e (ap (λ (l : List ℕ). b ∷ l) h)

abbrev Good : List ℕ → List Piece → Type 0
Good s ps = SomePiece ps × Bare ps × (rejoined ps ≡ s)

nul_before : (at : ℕ) (s : List ℕ) (ps : List Piece) → Good s ps → Good (0 ∷ s) (record { at = at; bytes = [] } ∷ ps)
nul_before at s [] g = absurd g.0
nul_before at s (p ∷ ps) g = (tt, (none_bare, g.1), ap (λ (l : List ℕ). 0 ∷ l) g.2)

longer_joined : (at b : ℕ) (p : Piece) (ps : List Piece) → rejoined (longer at b (p ∷ ps)) ≡ b ∷ rejoined (p ∷ ps)
longer_joined at b p [] = refl
longer_joined at b p (q ∷ ps) = refl

byte_before : (at b : ℕ) (s : List ℕ) (ps : List Piece) → eqb b 0 ≡ false → Good s ps → Good (b ∷ s) (longer at b ps)
byte_before at b s [] e g = absurd g.0
byte_before at b s (p ∷ ps) e g =
    (tt, (more_bare b p.bytes e g.1.0, g.1.1), longer_joined at b p ps ∙ ap (λ (l : List ℕ). b ∷ l) g.2)

all_good : (at : ℕ) (s : List ℕ) → Good s (pieces at s)
unfolding pieces
all_good at [] = (tt, (none_bare, tt), refl)
all_good at (b ∷ s) = ⊎_elim
    (λ (e : eqb b 0 ≡ true). rw (e, eqb-true b 0 e) (nul_before at s (pieces (suc at) s) (all_good (suc at) s)))
    (λ (e : eqb b 0 ≡ false). rw e (byte_before at b s (pieces (suc at) s) e (all_good (suc at) s)))
    (cases_Bool (eqb b 0))

pub splits : Splits
splits at s = let g = all_good at s in (g.1, g.2)
