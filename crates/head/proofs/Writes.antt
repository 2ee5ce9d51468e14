-- One write after another.
use Rattle.std.proofs.Common.{◌≡◌, ℕ, List, [], ◌++◌, IsErrAnd, Ok, Err, Result, sym, refl, ap, ◌∙◌, subst}
use Rattle.std.proofs.lemmas.List.{append_assoc}
use Rattle.wire.specs.Faults.{fault_of}
use Rattle.wire.specs.declared.refusal.Fault.{Fault}
use Rattle.wire.specs.declared.refusal.Refusal.{Refusal}
use Rattle.put.specs.declared.writer.Writer.{Writer}
use Rattle.put.specs.Appends.{Appends, Goes}
use Rattle.put.proofs.Chains.{appends_then, appends_none, appends_same, puts_none}
use Rattle.put.proofs.Overlays.{overlay-none}
use Rattle.facts.specs.Head.{after}
use Rattle.head_laws.proofs.Found.{not_ok}
use Rattle.head.specs.Wrote.{done_of, Wrote}

-- a writer that went on, put nothing, and went back
pub appends_nothing : {b e : ℕ} {u v w z : Writer} → Goes b u v → Appends [] v w → e ≡ u.at → Goes e w z → Appends [] u z
appends_nothing {b} {e} {u} {v} {w} {z} leave a from on = record {
  same_reference = on.same_reference ∙ (a.same_reference ∙ leave.same_reference);
  puts = record {
    goes = on.place ∙ (from ∙ (puts_none u.out.now u.at u.counts).goes);
    leaves =
        on.leaves
        ∙ (a.puts.leaves ∙ (overlay-none v.out.now v.at ∙ (leave.leaves ∙ sym (overlay-none u.out.now u.at))));
  };
}

-- all was written
pub wrote : {x : Result (List ℕ) Fault} {u v : Writer} (y : List ℕ) → x ≡ Ok y → Appends y u v → Wrote x u (Ok tt) v
wrote {x} {u} {v} y e a = record {
  same_reference = a.same_reference;
  answers = sym (ap (λ (z : Result (List ℕ) Fault). done_of z) e);
  appends = λ z h. let q : y ≡ z = cc in appends_same q a;
}

-- there was a fault
pub refused : {x : Result (List ℕ) Fault} {u v : Writer} (e : Refusal) → v.out.ghost_name ≡ u.out.ghost_name → x ≡ Err (fault_of e) → Wrote x u (Err e) v
refused {x} e same h = record {
  same_reference = same;
  answers = sym (ap (λ (z : Result (List ℕ) Fault). done_of z) h);
  appends = λ y k. not_ok (fault_of e) y (sym h ∙ k);
}

-- the same where a `?` returned it
pub broken : {x : Result (List ℕ) Fault} {u v : Writer} (r : Result (Unit {0}) Refusal) (e : Refusal) → v.out.ghost_name ≡ u.out.ghost_name → IsErrAnd r (λ y. y ≡ e) → x ≡ Err (fault_of e) → Wrote x u r v
broken {x} {u} {v} (Err y) e same b h = subst (λ (z : Refusal). Wrote x u (Err z) v) (sym b) (refused e same h)
broken (Ok n) e same b h = absurd b

-- what a write that went well tells, and one that did not
pub wrote_ok : (x : Result (List ℕ) Fault) {u v : Writer} {t : Unit {0}} → Wrote x u (Ok t) v → (y : List ℕ) × (x ≡ Ok y) × Appends y u v
wrote_ok (Ok y) w = (y, refl, w.appends y refl)
wrote_ok (Err e) {u} {v} {t} w = not_ok e t (sym w.answers)

pub wrote_err : (x : Result (List ℕ) Fault) (e : Refusal) {u v : Writer} → Wrote x u (Err e) v → x ≡ Err (fault_of e)
wrote_err (Ok y) e w = not_ok (fault_of e) tt w.answers
wrote_err (Err f) e w =
    let p = w.answers in
    let q : fault_of e ≡ f = cc in
    ap (λ (z : Fault). Err z) (sym q)

-- The bytes `x` are to be put, and `done` of them are; `rest` is still to be put.
pub record Going (x : Result (List ℕ) Fault) (u : Writer) (rest : Result (List ℕ) Fault) (v : Writer) : Type 0 where
  pub done : List ℕ
  pub is : x ≡ after (Ok done) rest
  pub appends : Appends done u v

after_none : (r : Result (List ℕ) Fault) → r ≡ after (Ok []) r
after_none (Ok x) = refl
after_none (Err e) = refl

after-after : (x y : List ℕ) (r : Result (List ℕ) Fault) → after (Ok x) (after (Ok y) r) ≡ after (Ok (x ++ y)) r
after-after x y (Ok z) = ap (λ (w : List ℕ). Ok w) (sym (append_assoc x y z))
after-after x y (Err e) = refl

pub going_none : (x : Result (List ℕ) Fault) (u : Writer) → Going x u x u
going_none x u = record { done = []; is = after_none x; appends = appends_none u }

pub going_more : {x rest : Result (List ℕ) Fault} {u v w : Writer} (y : List ℕ) (more : Result (List ℕ) Fault) → Going x u rest v → rest ≡ after (Ok y) more → Appends y v w → Going x u more w
going_more y more g e a = record {
  done = g.done ++ y;
  is = g.is ∙ (ap (λ (r : Result (List ℕ) Fault). after (Ok g.done) r) e ∙ after-after g.done y more);
  appends = appends_then g.appends a;
}

pub going_broken : {x rest : Result (List ℕ) Fault} {u v w : Writer} (r : Result (Unit {0}) Refusal) (e : Refusal) → Going x u rest v → w.out.ghost_name ≡ v.out.ghost_name → IsErrAnd r (λ y. y ≡ e) → rest ≡ Err (fault_of e) → Wrote x u r w
going_broken r e g same b h =
    broken r e (same ∙ g.appends.same_reference) b (g.is ∙ ap (λ (z : Result (List ℕ) Fault). after (Ok g.done) z) h)

-- bytes before others
pub wrote_behind : (y : List ℕ) (x : Result (List ℕ) Fault) {u v w : Writer} {r : Result (Unit {0}) Refusal} → Appends y u v → Wrote x v r w → Wrote (after (Ok y) x) u r w
wrote_behind y (Ok z) a w = record {
  same_reference = w.same_reference ∙ a.same_reference;
  answers = w.answers;
  appends = λ t h. let e : y ++ z ≡ t = cc in appends_same e (appends_then a (w.appends z refl));
}
wrote_behind y (Err e) a w = record {
  same_reference = w.same_reference ∙ a.same_reference;
  answers = w.answers;
  appends = λ t h. not_ok e t h;
}
