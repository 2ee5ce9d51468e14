-- Every carried fact is read again, from what each kind of section is.
use Rattle.std.proofs.Common.{◌≡◌, ℕ, ◌*◌, ◌≤◌, true, false, leb, List, length, Ok, Err, Result, sym, refl, ap, ◌∙◌, subst, ⊎_elim, arith}
use Rattle.std.proofs.lemmas.Bool.{cases_Bool, cond-true, cond-false}
use Rattle.wire.specs.Faults.{state_fault}
use Rattle.wire.specs.declared.order.ByteOrder.{ByteOrder}
use Rattle.wire.specs.declared.order.ByteOrder.TheVariants.{Little}
use Rattle.wire.specs.declared.refusal.Fault.{Fault}
use Rattle.mappings.specs.Tables.{within}
use Rattle.mappings.proofs.Joins.{err_not}
use Rattle.facts.specs.Facts.{Fact, text, texts, cpus, memory, clock, names, pairs, builds, files, mark, fact_of, write}
use Rattle.facts.specs.Laws.{ReadsBack, FactsReadBack}
use Rattle.facts.specs.declared.carried.Carried.TheVariants.{BuildId, Hostname, OsRelease, Version, Arch, NrCpus, CpuDesc, CpuId, TotalMem, CmdLine, PmuMappings, Stat, ClockId, SimpleperfFile, SimpleperfMetaInfo}
use Rattle.symbols_read_back.proofs.Tables.{symbols_back}
use Rattle.read_back.proofs.Builds.{builds_back}
use Rattle.read_back.proofs.Fixed.{cpus_back, memory_back, clock_back}
use Rattle.read_back.proofs.Law.{formed_ok}
use Rattle.read_back.proofs.Names.{names_back}
use Rattle.read_back.proofs.Pairs.{pairs_back}
use Rattle.read_back.proofs.Texts.{text_back, texts_back}

-- ---- with as many rows

module _ {X : Type 0} (feature n : ℕ) where
  enough : (ts : List X) → leb (length ts) n ≡ true → within feature n (Ok ts) ≡ Ok ts
  enough ts h = cond-true (leb (length ts) n) (Ok ts) (Err (state_fault 31 feature)) h

  within_ok : (r : Result (List X) Fault) (ts : List X) → within feature n r ≡ Ok ts → (r ≡ Ok ts) × (within feature n (Ok ts) ≡ Ok ts)
  within_ok (Err f) ts e = err_not f ts e
  within_ok (Ok xs) ts e = ⊎_elim
      (λ (h : leb (length xs) n ≡ true).
      let same : xs ≡ ts = let k = enough xs h in cc in
      (ap Ok same, subst (λ (x : List X). within feature n (Ok x) ≡ Ok x) same (enough xs h)))
      (λ (h : leb (length xs) n ≡ false). err_not _ ts (sym (cond-false (leb (length xs) n) (Ok xs) (Err (state_fault 31 feature)) h) ∙ e))
      (cases_Bool (leb (length xs) n))

  within_back : {parse : ByteOrder → List ℕ → Result (List X) Fault} {print : List X → List ℕ} → ReadsBack parse print → ReadsBack (λ o s. within feature n (parse o s)) print
  within_back {parse} back =
      record {
        again = λ o s ts b e. let (p, q) = within_ok (parse o s) ts e in ap (within feature n) (back.again o s ts b p) ∙ q;
        short = λ o s ts b e. back.short o s ts b (within_ok (parse o s) ts e).0;
      }

-- ---- as a fact

fact_ok : {V : Type 0} (fact : V → Fact) (r : Result V Fault) (v : Fact) → fact_of fact r ≡ Ok v → (x : V) × (r ≡ Ok x) × (fact x ≡ v)
fact_ok fact = formed_ok (fact_of fact) fact (λ f. f) (λ x. refl) (λ f. refl)

module _ {V : Type 0} (fact : V → Fact) {parse : ByteOrder → List ℕ → Result V Fault} {print : V → List ℕ} (same : (v : V) → write (fact v) ≡ print v) (back : ReadsBack parse print) where
  fact_back : ReadsBack (λ o s. fact_of fact (parse o s)) write
  fact_back =
      record {
        again = λ o s v b e.
            let (x, p, q) = fact_ok fact (parse o s) v e in
            subst (λ (w : Fact). fact_of fact (parse Little (write w)) ≡ Ok w) q
            (ap (λ t. fact_of fact (parse Little t)) (same x) ∙ ap (fact_of fact) (back.again o s x b p));
        short = λ o s v b e.
            let (x, p, q) = fact_ok fact (parse o s) v e in
            omega (arith, back.short o s x b p, ap length (same x), ap (λ (w : Fact). length (write w)) q);
      }

-- ---- every carried feature

marks_back : ReadsBack (λ o s. Ok mark) write
unfolding write
marks_back =
    record {
      again = λ o s v b e. e;
      short = λ o s v b e.
          let q : mark ≡ v = cc in
          subst (λ (w : Fact). length (write w) ≤ 2 * length s) q (omega arith);
    }

pub facts_back : FactsReadBack
unfolding write
facts_back n BuildId = fact_back builds (λ v. refl) (within_back 2 n builds_back)
facts_back n Hostname = fact_back text (λ v. refl) (text_back 3)
facts_back n OsRelease = fact_back text (λ v. refl) (text_back 4)
facts_back n Version = fact_back text (λ v. refl) (text_back 5)
facts_back n Arch = fact_back text (λ v. refl) (text_back 6)
facts_back n NrCpus = fact_back cpus (λ v. refl) cpus_back
facts_back n CpuDesc = fact_back text (λ v. refl) (text_back 8)
facts_back n CpuId = fact_back text (λ v. refl) (text_back 9)
facts_back n TotalMem = fact_back memory (λ v. refl) memory_back
facts_back n CmdLine = fact_back texts (λ v. refl) texts_back
facts_back n PmuMappings = fact_back names (λ v. refl) (within_back 16 n names_back)
facts_back n Stat = marks_back
facts_back n ClockId = fact_back clock (λ v. refl) clock_back
facts_back n SimpleperfFile = fact_back files (λ v. refl) symbols_back
facts_back n SimpleperfMetaInfo = fact_back pairs (λ v. refl) (within_back 129 n pairs_back)
