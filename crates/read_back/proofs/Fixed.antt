-- Facts of a fixed length are read again.
use Rattle.std.proofs.Common.{◌≡◌, ℕ, ◌^◌, ◌<◌, ◌≤◌, List, ◌++◌, length, take, drop, Some, None, Ok, Err, Option, Result, sym, refl, ap, ◌∙◌, subst, arith}
use Rattle.std.proofs.lemmas.List.{length-take, length-drop, take_all}
use Rattle.wire.specs.Faults.{section_fault}
use Rattle.wire.specs.Numbers.{number}
use Rattle.wire.specs.declared.order.ByteOrder.{ByteOrder}
use Rattle.wire.specs.declared.order.ByteOrder.TheVariants.{Little}
use Rattle.wire.specs.declared.refusal.Fault.{Fault}
use Rattle.wire.proofs.Digits.{length-bytes_of, number-again, number_below}
use Rattle.fixed_facts.specs.Fixed.{number_or, field, and_then, nr_cpus, whole64, total_mem, clock_frequency, of_first}
use Rattle.fixed_facts.specs.declared.feature_sections.ClockFrequency.{ClockFrequency}
use Rattle.fixed_facts.specs.declared.feature_sections.NrCpus.{NrCpus}
use Rattle.fixed_facts.specs.declared.feature_sections.TotalMem.{TotalMem}
use Rattle.mappings.proofs.Joins.{err_not}
use Rattle.facts.specs.Laws.{ReadsBack}
use Rattle.facts.specs.Written.{u32, u64}
use Rattle.read_back.proofs.Law.{Law, law_back}
use Rattle.read_back.proofs.Numbers.{past_number, length_past, number-alone}

number_ok : (f : Fault) (x : Option ℕ) (n : ℕ) → number_or f x ≡ Ok n → x ≡ Some n
number_ok f None n e = err_not f n e
number_ok f (Some m) n e = let q : m ≡ n = cc in ap Some q

then_ok : {V W : Type 0} (r : Result V Fault) (more : V → Result W Fault) (w : W) → and_then r more ≡ Ok w → (v : V) × (r ≡ Ok v) × (more v ≡ Ok w)
then_ok (Ok v) more w e = (v, refl, e)
then_ok (Err f) more w e = err_not f w e

-- ---- one u64

module _ {V : Type 0} (feature : ℕ) (make : ℕ → V) (value : V → ℕ) (made : (n : ℕ) → value (make n) ≡ n) (again : (v : V) → make (value v) ≡ v) where
  abbrev wide : ByteOrder → List ℕ → Result V Fault
  wide o s = and_then (whole64 feature o s) (λ n. Ok (make n))

  abbrev wide_bytes : V → List ℕ
  wide_bytes v = u64 (value v)

  abbrev FineWide : V → Type 0
  FineWide v = value v < 2 ^ 64

  wide_told : (o : ByteOrder) (s : List ℕ) (v : V) → of_first 8 wide o s ≡ Ok v → FineWide v × (8 ≤ length s)
  wide_told o s v e =
      let (n, p, q) = then_ok (whole64 feature o (take 8 s)) (λ n. Ok (make n)) v e in
      let h = number_below o 8 (take 8 s) n (number_ok (section_fault 6 feature 0) (number o 8 (take 8 s)) n p) in
      let is : make n ≡ v = cc in
      let same : value v ≡ n = ap value (sym is) ∙ made n in
      (omega (arith, h.0), omega (arith, h.1, length-take 8 s))

  pub wide_law : Law (of_first 8 wide) wide_bytes FineWide
  wide_law =
      record {
        fine = λ o s v b e. (wide_told o s v e).0;
        again = λ v f.
            let b = u64 (value v) in
            ap (λ x. wide Little x) (take_all 8 b (omega (arith, length-bytes_of 8 (value v))))
            ∙ ap (λ x. and_then (number_or (section_fault 6 feature 0) x) (λ n. Ok (make n))) (number-alone 8 (value v) f)
            ∙ ap Ok (again v);
        short = λ o s v b e. omega (arith, (wide_told o s v e).1, length-bytes_of 8 (value v));
      }

  pub wide_back : ReadsBack (of_first 8 wide) wide_bytes
  wide_back = law_back FineWide wide_law

pub memory_back : ReadsBack (of_first 8 total_mem) (λ m. u64 m.kilobytes)
memory_back = wide_back 10 (λ n. record { kilobytes = n }) (λ (m : TotalMem). m.kilobytes) (λ n. refl) (λ m. refl)

pub clock_back : ReadsBack (of_first 8 clock_frequency) (λ c. u64 c.ns_per_tick)
clock_back = wide_back 23 (λ n. record { ns_per_tick = n }) (λ (c : ClockFrequency). c.ns_per_tick) (λ n. refl) (λ c. refl)

-- ---- two u32

abbrev pub cpus_bytes : NrCpus → List ℕ
cpus_bytes c = u32 c.nr_cpus_available ++ u32 c.nr_cpus_online

pub record FineCpus (c : NrCpus) : Type 0 where
  pub available : c.nr_cpus_available < 2 ^ 32
  pub online : c.nr_cpus_online < 2 ^ 32

abbrev cpus : ℕ → ℕ → NrCpus
cpus available online = record { nr_cpus_available = available; nr_cpus_online = online }

abbrev and_online : List ℕ → ByteOrder → ℕ → Result NrCpus Fault
and_online s o available = and_then (field 7 o 4 s 4) (λ online. Ok (cpus available online))

cpus_told : (o : ByteOrder) (s : List ℕ) (c : NrCpus) → of_first 8 nr_cpus o s ≡ Ok c → FineCpus c × (8 ≤ length s)
cpus_told o s c e =
    let t = take 8 s in
    let (a, p, f) = then_ok (field 7 o 4 t 0) (and_online t o) c e in
    let (b, q, g) = then_ok (field 7 o 4 t 4) (λ online. Ok (cpus a online)) c f in
    let low = number_below o 4 t a (number_ok (section_fault 11 7 0) (number o 4 t) a p) in
    let high = number_below o 4 (drop 4 t) b (number_ok (section_fault 11 7 4) (number o 4 (drop 4 t)) b q) in
    let is : cpus a b ≡ c = cc in
    (subst FineCpus is (record { available = low.0; online = high.0 }), omega (arith, high.1, length-take 8 s, length-drop 4 t))

length-cpus : (c : NrCpus) → length (cpus_bytes c) ≡ 8
length-cpus c = omega (arith, length_past 4 c.nr_cpus_available (u32 c.nr_cpus_online), length-bytes_of 4 c.nr_cpus_online)

pub cpus_law : Law (of_first 8 nr_cpus) cpus_bytes FineCpus
cpus_law =
    record {
      fine = λ o s c b e. (cpus_told o s c e).0;
      again = λ c f.
          let a = c.nr_cpus_available in
          let n = c.nr_cpus_online in
          let s = cpus_bytes c in
          ap (nr_cpus Little) (take_all 8 s (omega (arith, length-cpus c)))
          ∙ ap (λ x. and_then (number_or (section_fault 11 7 0) x) (and_online s Little)) (number-again 4 a (u32 n) f.available)
          ∙ ap (λ x. and_then (number_or (section_fault 11 7 4) x) (λ online. Ok (cpus a online))) (ap (number Little 4) (past_number 4 a (u32 n)) ∙ number-alone 4 n f.online);
      short = λ o s c b e. omega (arith, (cpus_told o s c e).1, length-cpus c);
    }

pub cpus_back : ReadsBack (of_first 8 nr_cpus) cpus_bytes
cpus_back = law_back FineCpus cpus_law
