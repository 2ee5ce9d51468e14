-- The loop that writes the entries of some features.
use Rattle.std.proofs.Common.{◌≡◌, ℕ, ◌+◌, ◌<◌, List, length, get_or, drop, IsErrAnd, Ok, Err, Result, ap, ◌∙◌, subst}
use Rattle.std.proofs.lemmas.List.{drop_more}
use Rattle.wire.specs.Faults.{fault_of}
use Rattle.wire.specs.declared.refusal.Fault.{Fault}
use Rattle.wire.specs.declared.refusal.Refusal.{Refusal}
use Rattle.facts.specs.declared.carried.Carried.{Carried}
use Rattle.facts.specs.declared.carried.Carried.TheVariants.{BuildId}
use Rattle.facts.specs.Head.{Answer, entry, after, entries}
use Rattle.put.specs.declared.writer.Writer.{Writer}
use Rattle.head.specs.Wrote.{Wrote}
use Rattle.head.proofs.Writes.{Going, going_more, going_broken, wrote_ok, wrote_err}

-- with as many rows as there were at first
pub as_many : (answers : ℕ → Carried → Answer) (f : Carried) {k n : ℕ} {u v : Writer} {r : Result (Unit {0}) Refusal} → k ≡ n → Wrote (entry f (answers k f)) u r v → Wrote (entry f (answers n f)) u r v
as_many answers f {k} {n} {u} {v} {r} e w = subst (λ (j : ℕ). Wrote (entry f (answers j f)) u r v) e w

module _ (answers : Carried → Answer) (fs : List Carried) (i : ℕ) where
  entries_next : (x : Result (List ℕ) Fault) → i < length fs → entry (get_or fs i BuildId) (answers (get_or fs i BuildId)) ≡ x → entries answers (drop i fs) ≡ after x (entries answers (drop (i + 1) fs))
  entries_next x h q =
      ap (λ (z : List Carried). entries answers z) (drop_more fs i BuildId h) ∙ ap (λ (z : Result (List ℕ) Fault). after z (entries answers (drop (i + 1) fs))) q

  module _ {x : Result (List ℕ) Fault} {u v : Writer} (going : Going x u (entries answers (drop i fs)) v) where
    -- one entry more
    pub entries-more : {w : Writer} {t : Unit {0}} → i < length fs → Wrote (entry (get_or fs i BuildId) (answers (get_or fs i BuildId))) v (Ok t) w → Going x u (entries answers (drop (i + 1) fs)) w
    entries-more h w =
        let (y, is, bytes) = wrote_ok (entry (get_or fs i BuildId) (answers (get_or fs i BuildId))) w in
        going_more y (entries answers (drop (i + 1) fs)) going (entries_next (Ok y) h is) bytes

    pub entries-fault : (r : Result (Unit {0}) Refusal) (e : Refusal) {w : Writer} → i < length fs → IsErrAnd r (λ y. y ≡ e) → Wrote (entry (get_or fs i BuildId) (answers (get_or fs i BuildId))) v (Err e) w → Wrote x u r w
    entries-fault r e h by w =
        going_broken r e going w.same_reference by (entries_next (Err (fault_of e)) h (wrote_err (entry (get_or fs i BuildId) (answers (get_or fs i BuildId))) e w))
