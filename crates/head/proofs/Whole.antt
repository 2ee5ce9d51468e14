-- A head is counted, and then written; and it speaks for its store.
use Rattle.std.proofs.Common.{◌≡◌, ℕ, ◌+◌, ◌<◌, ◌≤◌, min, Bool, true, false, cond, ltb, List, ◌++◌, length, take, drop, is_some, Some, None, Ok, Err, Option, Result, sym, refl, ap, ◌∙◌, subst, arith, Bor}
use Rattle.std.proofs.lemmas.List.{take_at}
use Rattle.std.proofs.lemmas.Bool.{le-ltb, lt-ltb, ltb-false, cond-false}
use Rattle.wire.specs.Faults.{section_fault, state_fault}
use Rattle.wire.specs.declared.order.ByteOrder.{ByteOrder}
use Rattle.wire.specs.declared.refusal.Fault.{Fault}
use Rattle.wire.specs.declared.refusal.Refusal.{Refusal}
use Rattle.image.specs.Held.{Features, held}
use Rattle.image.specs.Meaning.{Meaning, means}
use Rattle.put.specs.Overlay.{overlay, place}
use Rattle.put.specs.declared.writer.Writer.{Writer}
use Rattle.put.specs.Appends.{Appends}
use Rattle.put.proofs.Overlays.{overlay_front}
use Rattle.facts.specs.Head.{Sections, answer, entries, mark, carried, head_of, fitted, length_of, ahead, outcome}
use Rattle.facts.specs.Laws.{HeadsSpeak, Spoken, SpokenImage, Speaks}
use Rattle.head_laws.proofs.Found.{not_ok}
use Rattle.head.specs.Wrote.{Wrote}
use Rattle.head.proofs.Writes.{wrote_behind}

-- ---- the mark and the entries

same_some : (r : Option (Bor (List ℕ))) (x : Option (List ℕ)) → held r ≡ x → is_some r ≡ is_some x
same_some None x e = ap is_some e
same_some (Some r) x e = ap is_some e

pub whole_wrote : (n : ℕ) (o : ByteOrder) (at : Sections) (s : Option (Bor (List ℕ))) {u v w : Writer} {r : Result (Unit {0}) Refusal} → held s ≡ at 132 → is_some s ≡ false → Appends mark u v → Wrote (entries (answer n o at) carried) v r w → Wrote (head_of n o at) u r w
whole_wrote n o at s {u} {v} {w} {r} e absent a wrote =
    subst (λ (x : Result (List ℕ) Fault). Wrote x u r w)
    (sym (cond-false (is_some (at 132)) (Err (section_fault 16 132 0)) _ (sym (same_some s (at 132) e) ∙ absent)))
    (wrote_behind mark (entries (answer n o at) carried) a wrote)

-- ---- counted, and then written

pub record Answered (x : Result (List ℕ) Fault) (o : List ℕ) (r : Result ℕ Refusal) (p : List ℕ) : Type 0 where
  pub answer : outcome r ≡ length_of (fitted (length o) x)
  pub after : p ≡ ahead (fitted (length o) x) o

pub head-fits : (x : Result (List ℕ) Fault) (o : List ℕ) (n : ℕ) {c q u v : Writer} {s t : Unit {0}} → c.at ≡ 0 → Wrote x c (Ok s) q → n ≡ q.at → u.out.now ≡ o → u.at ≡ 0 → n ≤ min (length o) 16777216 → Wrote x u (Ok t) v → Answered x o (Ok n) v.out.now
head-fits (Ok h) o n {c} {q} {u} {v} from w is lent front l again =
    let counted = w.appends h refl in
    let written = again.appends h refl in
    let goes : q.at ≡ place (c.at + length h) = counted.puts.goes in
    let long : n ≡ length h = omega arith in
    let k : length h ≤ length o = omega arith in
    let t : fitted (length o) (Ok h) ≡ Ok h = cond-false _ _ _ (le-ltb (min (length o) 16777216) (length h) (omega arith)) in
    record {
      answer = ap (λ (m : ℕ). Ok m) long ∙ sym (ap length_of t);
      after = written.puts.leaves ∙ ((λ i. overlay (lent i) (front i) h) ∙ (overlay_front o h k ∙ sym (ap (λ (y : Result (List ℕ) Fault). ahead y o) t)));
    }
head-fits (Err y) o n {c} {q} {u} {v} {s} from w is lent front l again = not_ok y s (sym w.answers)

pub head-too-long : (x : Result (List ℕ) Fault) (room n : ℕ) {c q : Writer} {s : Unit {0}} → c.at ≡ 0 → Wrote x c (Ok s) q → n ≡ q.at → min room 16777216 < n → fitted room x ≡ Err (state_fault 32 256)
head-too-long (Ok h) room n {c} {q} from w is over =
    let counted = w.appends h refl in
    let goes : q.at ≡ place (c.at + length h) = counted.puts.goes in
    let long : min room 16777216 < length h = omega arith in
    ap (λ (b : Bool). cond b (Err (state_fault 32 256)) (Ok h)) (lt-ltb (min room 16777216) (length h) long)
head-too-long (Err y) room n {c} {q} {s} from w is over = not_ok y s (sym w.answers)

-- ---- it speaks

-- What was counted fits: so much is known of a head that is written.
pub record Fitting (most : ℕ) (x : Result (List ℕ) Fault) (len : ℕ) : Type 0 where
  pub head : List ℕ
  pub is : x ≡ Ok head
  pub fits : fitted most x ≡ Ok head
  pub short : length head ≤ 16777216
  pub room : length head ≤ most
  pub long : len ≡ length head

fitting : (room : ℕ) (x : Result (List ℕ) Fault) (len : ℕ) → Ok len ≡ length_of (fitted room x) → Fitting room x len
fitting room (Err e) len h = not_ok e len (sym h)
fitting room (Ok x) len h = by (ltb (min room 16777216) (length x)) refl h
  where
    by : (b : Bool) → ltb (min room 16777216) (length x) ≡ b → Ok len ≡ length_of (cond b (Err (state_fault 32 256)) (Ok x)) → Fitting room (Ok x) len
    by true q e = not_ok (state_fault 32 256) len (sym e)
    by false q e = record { head = x; is = refl; fits = cond-false _ _ _ q; short = omega (arith, ltb-false (min room 16777216) (length x) q); room = omega (arith, ltb-false (min room 16777216) (length x) q); long = cc }

pub spoken : HeadsSpeak → (n room : ℕ) (o : ByteOrder) (m : Features) (r : Result ℕ Refusal) (out p : List ℕ) → outcome r ≡ length_of (fitted room (head_of n o m.at)) → p ≡ ahead (fitted room (head_of n o m.at)) out → Spoken n o m r p
spoken laws n room o m (Err e) out p h a = tt
spoken laws n room o m (Ok len) out p h a =
    let f = fitting room (head_of n o m.at) len h in
    let whole : p ≡ f.head ++ drop (length f.head) out = a ∙ ap (λ (y : Result (List ℕ) Fault). ahead y out) f.fits in
    let front : take len p ≡ f.head = ap (λ (x : List ℕ). take len x) whole ∙ take_at f.head (drop (length f.head) out) len (sym f.long) in
    subst (λ (x : List ℕ). Speaks n o m x) (sym front) (laws n o m f.head (record { is = f.is; short = f.short }))

-- the same of a store that an image means
pub spoken_image : (n : ℕ) (image : Meaning) (o : ByteOrder) (m : Features) (r : Result ℕ Refusal) (p : List ℕ) → means o m.at ≡ image → Spoken n o m r p → SpokenImage n image r p
spoken_image n image o m (Ok len) p e says = (o, m, sym e, says)
spoken_image n image o m (Err x) p e says = tt
