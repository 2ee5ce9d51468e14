-- The records of a pipe image.
use Rattle.std.proofs.Common.{◌≡◌, ℕ, ◌≤◌, Bool, true, false, cond, eqb, ltb, List, length, Some, None, ap, arith}
use Rattle.std.proofs.lemmas.Bool.{ltb-false}
use Rattle.wire.specs.Numbers.{number_at}
use Rattle.wire.specs.declared.order.ByteOrder.{ByteOrder}
use Rattle.image.specs.Pipe.{Header, record_size, header}
use Rattle.image.proofs.Runs.{Sized, none_not, unless}

abbrev carrying : ℕ → ℕ → Header
carrying size m = record { size = size; feature = Some m }

abbrev other : ℕ → Header
other size = record { size = size; feature = None }

-- of either type, a record has the size that it says
size_is : (b c : Bool) (size m : ℕ) (h : Header) → cond b (cond c None (Some (carrying size m))) (Some (other size)) ≡ Some h → h.size ≡ size
size_is true true size m h e = none_not h e
size_is true false size m h e = let q : h ≡ carrying size m = cc in ap (λ (x : Header). x.size) q
size_is false c size m h e = let q : h ≡ other size = cc in ap (λ (x : Header). x.size) q

pub header-sized : (o : ByteOrder) (s : List ℕ) (h : Header) → header o s ≡ Some h → Sized s (record { feature = h.feature; skip = 16; size = h.size })
header-sized o s h e =
    let size : ℕ = record_size o s in
    let a = unless (ltb (length s) 8) _ h e in
    let b = unless (ltb size 8) _ h a.1 in
    let d = unless (ltb (length s) size) _ h b.1 in
    let least : 8 ≤ size = ltb-false size 8 b.0 in
    let within : size ≤ length s = ltb-false (length s) size d.0 in
    let z : h.size ≡ size = size_is (eqb (number_at o 4 s 0) 80) (ltb size 16) size (number_at o 8 s 8) h d.1 in
    record { some = omega arith; within = omega arith }
