-- What holds of a feature holds of the one that it is.
use Rattle.std.proofs.Common.{◌≡◌, ℕ, Bool, ◌⊎◌, List, Option, Result, sym, refl, ap, ◌∙◌, subst, inl, inr, Bor}
use Rattle.wire.specs.declared.order.ByteOrder.{ByteOrder}
use Rattle.wire.specs.declared.refusal.Refusal.{Refusal}
use Rattle.perf_data.specs.Questions.{question, answered}
use Rattle.put.specs.declared.writer.Writer.{Writer}
use Rattle.perf_data.specs.Texts.{feature_string}
use Rattle.facts.specs.declared.carried.Carried.{Carried}
use Rattle.facts.specs.declared.carried.Carried.TheVariants.{Hostname, OsRelease, Version, Arch, CpuDesc, CpuId}
use Rattle.facts.specs.Facts.{text, number, fact_of, read, write}
use Rattle.facts.specs.Head.{Sections, answer}
use Rattle.facts.specs.Written.{text_bytes}
use Rattle.put_facts.specs.Writes.{in_bytes, Writes}
use Rattle.put_facts.proofs.Telling.{tells, writes_same}

module _ {f v : Carried} (is : f ≡ v) where
  pub writes_at : {before after : Writer} {r : Result Bool Refusal} (n : ℕ) (o : ByteOrder) (at : Sections) → Writes (in_bytes (answer n o at v)) before r after → Writes (in_bytes (answer n o at f)) before r after
  writes_at n o at w = writes_same (ap (λ x. in_bytes (answer n o at x)) (sym is)) w

-- A feature that is a header text, whichever of them.
abbrev IsText : Carried → Type 0
IsText f = (n : ℕ) → read n f ≡ (λ o s. fact_of text (feature_string (number f) o s))

pub one-text : (f : Carried) → (f ≡ Hostname) ⊎ ((f ≡ OsRelease) ⊎ ((f ≡ Version) ⊎ ((f ≡ Arch) ⊎ ((f ≡ CpuDesc) ⊎ (f ≡ CpuId))))) → IsText f
one-text f (inl e) = subst IsText (sym e) (λ n. refl)
one-text f (inr (inl e)) = subst IsText (sym e) (λ n. refl)
one-text f (inr (inr (inl e))) = subst IsText (sym e) (λ n. refl)
one-text f (inr (inr (inr (inl e)))) = subst IsText (sym e) (λ n. refl)
one-text f (inr (inr (inr (inr (inl e))))) = subst IsText (sym e) (λ n. refl)
one-text f (inr (inr (inr (inr (inr e))))) = subst IsText (sym e) (λ n. refl)

pub text_at : (n : ℕ) (o : ByteOrder) (at : Sections) (f : Carried) (k : ℕ) (r : Result (Option (Bor (List ℕ))) Refusal) → IsText f → k ≡ number f → answered (λ x. x.now) r ≡ question (feature_string k) o (at k) → answered (λ t. text_bytes t.now) r ≡ in_bytes (answer n o at f)
unfolding write
text_at n o at f k r is e h =
    let known : answered (λ x. x.now) r ≡ question (feature_string (number f)) o (at (number f)) = h ∙ ap (λ m. question (feature_string m) o (at m)) e in
    tells text (λ x. x.now) (λ t. text_bytes t.now) (feature_string (number f)) o (at (number f)) r known (λ t q. refl)
    ∙ ap (λ p. in_bytes (question p o (at (number f)))) (sym (is n))
