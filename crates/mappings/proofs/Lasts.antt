-- An answered table has the last of each key.
use Rattle.std.proofs.Common.{◌≡◌, ℕ, Bool, true, false, cond, leb, List, length, Some, None, Ok, Err, Option, Result, sym, subst, arith}
use Rattle.wire.specs.Faults.{state_fault}
use Rattle.wire.specs.declared.order.ByteOrder.{ByteOrder}
use Rattle.wire.specs.declared.refusal.Fault.{Fault}
use Rattle.perf_data.specs.Questions.{present, question}
use Rattle.table.specs.LastOfEach.{LastOfEach}
use Rattle.table.specs.Order.{Order}
use Rattle.table.specs.Table.{tabled}
use Rattle.table.proofs.Lasts.{last_of_each}
use Rattle.mappings.specs.Tables.{table_by, within, AnswersLast}

module _ {K V : Type 0} (o : Order K) (n feature : ℕ) where
  none_not : (X : Type 0) (es : List (K × V)) → ◌≡◌ {A = Result (Option (List (K × V))) Fault} (Ok None) (Ok (Some es)) → X
  none_not X es e = let z : ◌≡◌ {A = ℕ} 0 1 = cc in absurd (omega arith)

  err_not : (X : Type 0) (f : Fault) (es : List (K × V)) → ◌≡◌ {A = Result (Option (List (K × V))) Fault} (Err f) (Ok (Some es)) → X
  err_not X f es e = let z : ◌≡◌ {A = ℕ} 0 1 = cc in absurd (omega arith)

  by_room : (b : Bool) (given entries table : List (K × V)) → given ≡ entries → present (cond b (Ok (tabled o (λ e. e.0) given)) (Err (state_fault 31 feature))) ≡ Ok (Some table) → LastOfEach o (λ e. e.0) entries table
  by_room true given entries table p e =
      let q : tabled o (λ e. e.0) given ≡ table = cc in
      subst (λ es. LastOfEach o (λ e. e.0) es table) p (subst (LastOfEach o (λ e. e.0) given) q (last_of_each o (λ e. e.0) given))
  by_room false given entries table p e = err_not _ _ table e

  by_reading : (read : Result (List (K × V)) Fault) → AnswersLast o (present read) (present (within feature n (table_by o (λ e. e.0) read)))
  by_reading (Ok given) = λ entries table p e. (let q : given ≡ entries = cc in by_room (leb (length (tabled o (λ e. e.0) given)) n) given entries table q e)
  by_reading (Err f) = λ entries table p e. err_not _ f entries p

  by_section : (read : ByteOrder → List ℕ → Result (List (K × V)) Fault) (order : ByteOrder) (section : Option (List ℕ)) → AnswersLast o (question read order section) (question (λ w s. within feature n (table_by o (λ e. e.0) (read w s))) order section)
  by_section read order None = λ entries table p e. none_not _ entries p
  by_section read order (Some s) = by_reading (read order s)

  pub answers_last : (read : ByteOrder → List ℕ → Result (List (K × V)) Fault) (order : ByteOrder) (section : Option (List ℕ)) (answer : Result (Option (List (K × V))) Fault) → answer ≡ question (λ w s. within feature n (table_by o (λ e. e.0) (read w s))) order section → AnswersLast o (question read order section) answer
  answers_last read order section answer e =
      subst (AnswersLast o (question read order section)) (sym e) (by_section read order section)
