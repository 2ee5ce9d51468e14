-- What is read of a section in parts.
use Rattle.std.proofs.Common.{◌≡◌, ℕ, List, [], ◌∷◌, ◌++◌, length, Ok, Err, Option, Result, sym, refl, ap, subst, append_assoc, arith}
use Rattle.wire.specs.Faults.{fault_of}
use Rattle.wire.specs.declared.refusal.Fault.{Fault}
use Rattle.wire.specs.declared.refusal.Refusal.{Refusal}
use Rattle.table.specs.Order.{Order}
use Rattle.table.specs.Fills.{fits, laid}
use Rattle.table.specs.Table.{tabled}
use Rattle.table.specs.declared.row.Row.{Row}
use Rattle.mappings.specs.Tables.{before, table_by, Made}

pub err_not : {X V E : Type 0} (e : E) (v : V) → ◌≡◌ {A = Result V E} (Err e) (Ok v) → X
err_not e v h = let z : ◌≡◌ {A = ℕ} 0 1 = cc in absurd (omega arith)

-- what was read before, and then more
abbrev pub joined : {X : Type 0} → List X → Result (List X) Fault → Result (List X) Fault
joined xs (Ok ys) = Ok (xs ++ ys)
joined xs (Err f) = Err f

pub joined_none : {X : Type 0} (p : Result (List X) Fault) → p ≡ joined [] p
joined_none (Ok ys) = refl
joined_none (Err f) = refl

pub joined_more : {X : Type 0} (xs : List X) (x : X) (p : Result (List X) Fault) → joined xs (before x p) ≡ joined (xs ++ x ∷ []) p
joined_more xs x (Ok ys) = ap Ok (sym (append_assoc xs (x ∷ []) ys))
joined_more xs x (Err f) = refl

-- The end of a reading, by all that the section gives: a fault, or rows that are in the table.
module _ {K : Type 0} (o : Order K) (key : Row → K) (given : Result (List Row) Fault) (rows : List Row) where
  pub fault_made : (r : Result (Option ℕ) Refusal) (e : Refusal) → given ≡ Err (fault_of e) → r ≡ Err e → Made (table_by o key given) r rows
  fault_made r e g h =
      let P : Result (List Row) Fault → Result (Option ℕ) Refusal → Type 0 = λ p q. Made (table_by o key p) q rows in
      subst (λ p. P p r) (sym g) (subst (P (Err (fault_of e))) (sym h) refl)

  pub table_made : (so_far : List Row) (used : Option ℕ) → given ≡ Ok so_far → (used ≡ fits (length rows) (tabled o key so_far)) × (rows ≡ laid (length rows) (tabled o key so_far)) → Made (table_by o key given) (Ok used) rows
  table_made so_far used g h = subst (λ p. Made (table_by o key p) (Ok used) rows) (sym g) h
