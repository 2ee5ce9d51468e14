-- From what a question answers to the fact that a head has of it.
use Rattle.std.proofs.Common.{◌≡◌, ℕ, Bool, false, List, [], map, take, is_some, IsErrAnd, Some, None, Ok, Err, Option, Result, sym, refl, ap, ◌∙◌, subst}
use Rattle.std.specs.Bool.{then_some}
use Rattle.wire.specs.Faults.{fault_of}
use Rattle.wire.specs.declared.order.ByteOrder.{ByteOrder}
use Rattle.wire.specs.declared.refusal.Fault.{Fault}
use Rattle.wire.specs.declared.refusal.Refusal.{Refusal}
use Rattle.table.specs.declared.row.Row.{Row}
use Rattle.perf_data.specs.Questions.{present, question, answered}
use Rattle.facts.specs.Facts.{Fact, mark, fact_of, write}
use Rattle.put.specs.declared.writer.Writer.{Writer}
use Rattle.put.proofs.Chains.{appends_none}
use Rattle.put_facts.specs.Writes.{Bytes, in_bytes, Writes}

-- what is made of a value, if there is one
abbrev over : {V W : Type 0} → (V → W) → Result (Option V) Fault → Result (Option W) Fault
over f (Ok None) = Ok None
over f (Ok (Some v)) = Ok (Some (f v))
over f (Err e) = Err e

pub answered_over : {X V W : Type 0} (value : X → V) (f : V → W) (made : X → W) (r : Result (Option X) Refusal) → ((x : X) → r ≡ Ok (Some x) → made x ≡ f (value x)) → answered made r ≡ over f (answered value r)
answered_over value f made (Ok None) h = refl
answered_over value f made (Ok (Some x)) h = ap (λ w. Ok (Some w)) (h x refl)
answered_over value f made (Err e) h = refl

module _ {V : Type 0} (fact : V → Fact) where
  fact_read : (r : Result V Fault) → in_bytes (present (fact_of fact r)) ≡ over (λ v. write (fact v)) (present r)
  fact_read (Ok v) = refl
  fact_read (Err e) = refl

  fact_over : (parse : ByteOrder → List ℕ → Result V Fault) (o : ByteOrder) (section : Option (List ℕ)) → in_bytes (question (λ o s. fact_of fact (parse o s)) o section) ≡ over (λ v. write (fact v)) (question parse o section)
  fact_over parse o None = refl
  fact_over parse o (Some s) = fact_read (parse o s)

  -- what the code has of an answer is the fact in bytes
  pub tells : {X : Type 0} (value : X → V) (bytes : X → List ℕ) (parse : ByteOrder → List ℕ → Result V Fault) (o : ByteOrder) (section : Option (List ℕ)) (r : Result (Option X) Refusal) → answered value r ≡ question parse o section → ((x : X) → r ≡ Ok (Some x) → bytes x ≡ write (fact (value x))) → answered bytes r ≡ in_bytes (question (λ o s. fact_of fact (parse o s)) o section)
  tells value bytes parse o section r e h =
      answered_over value (λ v. write (fact v)) bytes r h ∙ (ap (over (λ v. write (fact v))) e ∙ sym (fact_over parse o section))

pub writes_same : {b d : Bytes} {u v : Writer} {r : Result Bool Refusal} → b ≡ d → Writes b u r v → Writes d u r v
writes_same {b} {d} {u} {v} {r} e w = subst (λ x. Writes x u r v) e w

-- a table in rows: `g` is what a row stands for, and `bytes` what rows are written as
pub table_tells : {V : Type 0} (fact : List V → Fact) (bytes : List Row → List ℕ) (g : Row → V) (same : (rs : List Row) → bytes rs ≡ write (fact (map g rs))) (rows : List Row) (used : Result (Option ℕ) Refusal) (parse : ByteOrder → List ℕ → Result (List V) Fault) (o : ByteOrder) (section : Option (List ℕ)) → answered (λ n. map g (take n rows)) used ≡ question parse o section → answered (λ n. bytes (take n rows)) used ≡ in_bytes (question (λ o s. fact_of fact (parse o s)) o section)
table_tells fact bytes g same rows used parse o section h =
    tells fact (λ n. map g (take n rows)) (λ n. bytes (take n rows)) parse o section used h (λ n q. same (take n rows))

-- a section that says no more than that it is there
pub mark_is : {X : Type 0} (x : X) (o : ByteOrder) (section : Option (List ℕ)) (b : Bool) (r : Option X) → b ≡ is_some section → r ≡ then_some b x → answered {V = List ℕ} (λ _. []) (Ok r) ≡ in_bytes (question (λ _ _. Ok mark) o section)
unfolding write
mark_is x o None b r e f = ap (λ y. answered {V = List ℕ} (λ _. []) (Ok y)) (f ∙ ap (λ c. then_some c x) e)
mark_is x o (Some s) b r e f = ap (λ y. answered {V = List ℕ} (λ _. []) (Ok y)) (f ∙ ap (λ c. then_some c x) e)

-- what is written of an answer: its fact, or nothing
module _ {X : Type 0} (bytes : X → List ℕ) {read : Result (Option X) Refusal} {u : Writer} where
  pub writes_absent : read ≡ Ok None → Writes (answered bytes read) u (Ok false) u
  writes_absent is = subst (λ r. Writes (answered bytes r) u (Ok false) u) (sym is) (record { answers = refl; appends = appends_none u })

  pub writes_fault : (e : Refusal) (r : Result Bool Refusal) → read ≡ Err e → IsErrAnd r (λ y. y ≡ e) → Writes (answered bytes read) u r u
  writes_fault e (Err y) is same =
      subst (λ q. Writes (answered bytes q) u (Err y) u) (sym is) (record { answers = ap (λ z. Err (fault_of z)) same; appends = appends_none u })
  writes_fault e (Ok b) is same = absurd same
