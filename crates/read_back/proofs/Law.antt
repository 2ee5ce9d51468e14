-- A way to read, a way to write, and what holds of every value that is read.
use Rattle.std.proofs.Common.{◌≡◌, ℕ, ◌*◌, ◌≤◌, List, length, Ok, Err, Result, sym, refl, ◌∙◌}
use Rattle.wire.specs.declared.order.ByteOrder.{ByteOrder}
use Rattle.wire.specs.declared.order.ByteOrder.TheVariants.{Little}
use Rattle.wire.specs.declared.refusal.Fault.{Fault}
use Rattle.mappings.proofs.Joins.{err_not}
use Rattle.facts.specs.Laws.{ReadsBack}

-- What was read of a section is fine, a fine value is read again from the bytes that it is written as, and these are at most
-- twice those of the section.
pub record Law {V : Type 0} (parse : ByteOrder → List ℕ → Result V Fault) (print : V → List ℕ) (Fine : V → Type 0) : Type 0 where
  pub fine : (o : ByteOrder) (s : List ℕ) (v : V) → length s ≤ 16777216 → parse o s ≡ Ok v → Fine v
  pub again : (v : V) → Fine v → parse Little (print v) ≡ Ok v
  pub short : (o : ByteOrder) (s : List ℕ) (v : V) → length s ≤ 16777216 → parse o s ≡ Ok v → length (print v) ≤ 2 * length s

pub law_back : {V : Type 0} {parse : ByteOrder → List ℕ → Result V Fault} {print : V → List ℕ} (Fine : V → Type 0) → Law parse print Fine → ReadsBack parse print
law_back Fine law = record { again = λ o s v b e. law.again v (law.fine o s v b e); short = law.short }

-- Where what is read is brought into another form, and a fault stays a fault, a value comes of a value.
module _ {V W E F : Type 0} (f : Result V E → Result W F) (form : V → W) (fault : E → F) (ok : (v : V) → f (Ok v) ≡ Ok (form v)) (err : (e : E) → f (Err e) ≡ Err (fault e)) where
  pub formed_ok : (r : Result V E) (w : W) → f r ≡ Ok w → (v : V) × (r ≡ Ok v) × (form v ≡ w)
  formed_ok (Ok v) w e = let is = sym (ok v) ∙ e in (v, refl, cc)
  formed_ok (Err x) w e = err_not (fault x) w (sym (err x) ∙ e)
