-- What every call keeps true of the rows of a shelf.
use Rattle.std.proofs.Common.{◌≡◌, ℕ, zero, suc, ◌+◌, ◌<◌, ◌≤◌, eqb, ◌⊎◌, List, sym, refl, ap, ◌∙◌, inl, inr, ⊎_elim, arith}
use Rattle.std.proofs.lemmas.Bool.{cases_eq, eq-eqb, ne_eqb, cond-true, cond-false}
use Rattle.facts.specs.Laws.{IsHead}
use Rattle.shelf.specs.Rows.{Row}
use Rattle.shelf.specs.Histories.{Filing}
use Rattle.shelf.specs.Law.{one}

pub one_same : (k g : ℕ) → k ≡ g → one k g ≡ 1
one_same k g e = cond-true (eqb k g) 1 0 (eq-eqb k g e)

pub one_other : (k g : ℕ) → (k ≡ g → ⊥) → one k g ≡ 0
one_other k g e = cond-false (eqb k g) 1 0 (ne_eqb k g e)

-- k is counted in the tally of g exactly if it is g
pub tally : (k g : ℕ) → ((one k g ≡ 1) × (k ≡ g)) ⊎ ((one k g ≡ 0) × (k ≡ g → ⊥))
tally k g = ⊎_elim (λ e. inl (one_same k g e, e)) (λ e. inr (one_other k g e, e)) (cases_eq k g)

pub cases_zero : (n : ℕ) → (n ≡ 0) ⊎ (1 ≤ n)
cases_zero zero = inl refl
cases_zero (suc n) = inr (omega arith)

-- a head is that of what was filed
abbrev pub HeadOf : Filing → List ℕ → Type 0
HeadOf x head = IsHead x.rows x.order x.features head

-- Over how many filings and releases each group had, which filings it had, the next number, and the rows by place.
pub record Inv (F L : ℕ → ℕ) (In : Filing → ℕ → Type 0) (n : ℕ) (R : ℕ → Row) : Type 0 where
  pub first : 1 ≤ n
  -- what was filed is tallied, under a number that was handed out
  pub some : (x : Filing) (g : ℕ) → In x g → 1 ≤ F g
  pub fresh : (g : ℕ) → 1 ≤ F g → (1 ≤ g) × (g < n)
  pub least : (g : ℕ) → L g ≤ F g
  -- a row has what is left of its group's filings
  pub counts : (j : ℕ) → 1 ≤ (R j).number → 1 ≤ (R j).count
  pub shown : (j : ℕ) → 1 ≤ (R j).number → (R j).count + L (R j).number ≡ F (R j).number
  pub held : (g : ℕ) → L g < F g → (j : ℕ) × ((R j).number ≡ g) × (1 ≤ (R j).number)
  -- no two rows have one number or one head
  pub only : (i j : ℕ) → 1 ≤ (R i).number → (R i).number ≡ (R j).number → i ≡ j
  pub apart : (i j : ℕ) → 1 ≤ (R i).number → 1 ≤ (R j).number → (R i).head ≡ (R j).head → i ≡ j
  -- a row has the head of all that was filed into its group
  pub heads : (j : ℕ) (x : Filing) → 1 ≤ (R j).number → In x (R j).number → HeadOf x (R j).head
  -- a count is a u32, and where there is no next number the highest was answered
  pub most : (j : ℕ) → 1 ≤ (R j).number → (R j).count ≤ 4294967295
  pub used : 4294967296 ≤ n → 1 ≤ F 4294967295

-- the rows T are R but for the place i
pub record But (R : ℕ → Row) (i : ℕ) (T : ℕ → Row) : Type 0 where
  pub number : (j : ℕ) → (j ≡ i → ⊥) → (T j).number ≡ (R j).number
  pub count : (j : ℕ) → (j ≡ i → ⊥) → (T j).count ≡ (R j).count
  pub head : (j : ℕ) → (j ≡ i → ⊥) → (T j).head ≡ (R j).head

pub but : (R : ℕ → Row) (i : ℕ) (T : ℕ → Row) → ((j : ℕ) → (j ≡ i → ⊥) → T j ≡ R j) → But R i T
but R i T o =
    record { number = λ j e. ap (λ (r : Row). r.number) (o j e); count = λ j e. ap (λ (r : Row). r.count) (o j e); head = λ j e. ap (λ (r : Row). r.head) (o j e) }

-- what stays at i stays at every place
pub stays : {X : Type 0} (R T : ℕ → X) (i : ℕ) → T i ≡ R i → ((j : ℕ) → (j ≡ i → ⊥) → T j ≡ R j) → (j : ℕ) → T j ≡ R j
stays R T i here o j = ⊎_elim (λ e. ap T e ∙ here ∙ ap R (sym e)) (λ e. o j e) (cases_eq j i)
