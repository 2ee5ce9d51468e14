-- A way to read and a way to write that belong together, and how to put such ways together.
use Rattle.std.proofs.Common.{◌≡◌, ℕ, ◌+◌, ◌≤◌, Bool, true, false, cond, List, [], ◌++◌, length, Ok, Err, Result, sym, refl, ap, ◌∙◌, subst, arith}
use Rattle.std.proofs.lemmas.List.{append_assoc, length-append}
use Rattle.wire.specs.declared.order.ByteOrder.{ByteOrder}
use Rattle.wire.specs.declared.order.ByteOrder.TheVariants.{Little}
use Rattle.wire.specs.declared.refusal.Fault.{Fault}
use Rattle.simpleperf.specs.Parse.{Got, got, and_then}
use Rattle.simpleperf.proofs.Items.{not_ok}

-- A way to read from the front of some bytes. The number is the size that the offsets of faults are counted in.
abbrev pub Parser : Type 0 → Type 0
Parser V = ByteOrder → ℕ → List ℕ → Result (Got V) Fault

-- What is read is fine; what is fine is read again from the bytes that it is written as, whatever follows them; and these
-- are at most `more` more than those that it was read from.
pub record Law {V : Type 0} (parse : Parser V) (print : V → List ℕ) (Fine : V → Type 0) (more : ℕ) : Type 0 where
  pub fine : (o : ByteOrder) (n : ℕ) (s : List ℕ) (g : Got V) → length s ≤ 16777216 → parse o n s ≡ Ok g → Fine g.value
  pub again : (v : V) → Fine v → (n : ℕ) (t : List ℕ) → parse Little n (print v ++ t) ≡ got v t
  pub short : (o : ByteOrder) (n : ℕ) (s : List ℕ) (g : Got V) → length s ≤ 16777216 → parse o n s ≡ Ok g → length (print g.value) + length g.rest ≤ length s + more

-- both parts went well
pub and_then_ok : {V W : Type 0} (r : Result (Got V) Fault) (k : V → List ℕ → Result (Got W) Fault) (g : Got W) → and_then r k ≡ Ok g → (h : Got V) × (r ≡ Ok h) × (k h.value h.rest ≡ Ok g)
and_then_ok (Ok h) k g e = (h, refl, e)
and_then_ok (Err x) k g e = not_ok x g e

-- one of two ways
pub either_law : {V : Type 0} (b : Bool) {p q : Parser V} {print : V → List ℕ} {F G : V → Type 0} {more : ℕ} → Law p print F more → Law q print G more → Law (λ o n s. cond b (p o n s) (q o n s)) print (λ v. cond b (F v) (G v)) more
either_law true x y = x
either_law false x y = y

-- what a value and the bytes after it are
pub got-is : {V : Type 0} (v : V) (s : List ℕ) (g : Got V) → got v s ≡ Ok g → record { value = v; rest = s } ≡ g
got-is v s g e = cc

-- nothing is read
pub none_law : {V : Type 0} (v : V) (print : V → List ℕ) (more : ℕ) → print v ≡ [] → Law (λ o n s. got v s) print (λ w. w ≡ v) more
none_law v print more none =
    record {
      fine = λ o n s g b e. ap (λ x. x.value) (sym (got-is v s g e));
      again = λ w e n t. rw (e, none);
      short = λ o n s g b e. rw (← got-is v s g e, none) (omega arith);
    }

module _ {V W : Type 0} {p : Parser V} {print-p : V → List ℕ} {Fine-p : V → Type 0} where
  -- What is read is made into something else.
  pub made_law : {m more : ℕ} → Law p print-p Fine-p m → m ≤ more → (make : V → W) (print : W → List ℕ) → ((v : V) → print (make v) ≡ print-p v) → Law (λ o n s. and_then (p o n s) (λ v t. got (make v) t)) print (λ w. (v : V) × Fine-p v × (w ≡ make v)) more
  made_law {m} {more} law less make print same =
      record {
        fine = λ o n s g b e.
            let (h, eh, e') = and_then_ok (p o n s) (λ v t. got (make v) t) g e in
            (h.value, law.fine o n s h b eh, ap (λ x. x.value) (sym (got-is (make h.value) h.rest g e')));
        again = λ w (v, f, e) n t.
            rw (e, same v) (ap (λ x. and_then x (λ a u. got (make a) u)) (law.again v f n t));
        short = λ o n s g b e.
            let (h, eh, e') = and_then_ok (p o n s) (λ v t. got (make v) t) g e in
            let l = law.short o n s h b eh in
            rw (← got-is (make h.value) h.rest g e', same h.value) (omega arith);
      }

  -- Something is read, and then the whole, by what was read. The whole is written as that part of it and the rest.
  pub then_law : {q : V → Parser W} {print-q : W → List ℕ} {Fine-q : V → W → Type 0} {more : ℕ} → Law p print-p Fine-p 0 → (part : W → V) → ((v : V) → Law (q v) print-q (Fine-q v) more) → ((v : V) (w : W) → Fine-q v w → part w ≡ v) → Law (λ o n s. and_then (p o n s) (λ v t. q v o n t)) (λ w. print-p (part w) ++ print-q w) (λ w. Fine-p (part w) × Fine-q (part w) w) more
  then_law {q} {print-q} {Fine-q} {more} law-p part law-q parted =
      record {
        fine = λ o n s g b e.
            let (h, eh, e') = and_then_ok (p o n s) (λ v t. q v o n t) g e in
            let l = law-p.short o n s h b eh in
            let f = (law-q h.value).fine o n h.rest g (omega arith) e' in
            subst (λ (v : V). Fine-p v × Fine-q v g.value) (sym (parted h.value g.value f)) (law-p.fine o n s h b eh, f);
        again = λ w f n t.
            ap (λ x. and_then (p Little n x) (λ v u. q v Little n u)) (append_assoc (print-p (part w)) (print-q w) t)
            ∙ ap (λ x. and_then x (λ v u. q v Little n u)) (law-p.again (part w) f.0 n (print-q w ++ t))
            ∙ (law-q (part w)).again w f.1 n t;
        short = λ o n s g b e.
            let (h, eh, e') = and_then_ok (p o n s) (λ v t. q v o n t) g e in
            let l = law-p.short o n s h b eh in
            let k : length h.rest ≤ 16777216 = omega arith in
            let f = (law-q h.value).fine o n h.rest g k e' in
            let m = (law-q h.value).short o n h.rest g k e' in
            rw (length-append, parted h.value g.value f) (omega arith);
      }
