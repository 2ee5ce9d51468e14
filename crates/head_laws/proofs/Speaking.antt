-- A head speaks for its store, since what was read of a section is read again from the entry.
use Rattle.std.proofs.Common.{◌≡◌, ℕ, ◌≤◌, min, Bool, true, false, cond, eqb, ltb, leb, List, ◌++◌, length, is_some, IfSome, Some, None, Ok, Err, Option, Result, sym, refl, ap, ◌∙◌, subst, arith}
use mathlib.Core.Path.{fun_ext}
use Rattle.std.proofs.lemmas.Bool.{le-ltb, cond-true, cond-false}
use Rattle.wire.specs.Faults.{section_fault, image_fault, state_fault}
use Rattle.wire.specs.Numbers.{number_of, number_at}
use Rattle.wire.specs.declared.order.ByteOrder.{ByteOrder}
use Rattle.wire.specs.declared.order.ByteOrder.TheVariants.{Little}
use Rattle.wire.specs.declared.refusal.Fault.{Fault}
use Rattle.image.specs.Head.{head_front, head_marked, head_image}
use Rattle.image.specs.Held.{Features}
use Rattle.image.specs.Meaning.{Meaning, faulty, means, unless_at}
use Rattle.image.specs.Run.{run_from, first_broken, walked as Walked-as}
use Rattle.perf_data.specs.Questions.{present, question}
use Rattle.facts.specs.declared.carried.Carried.{Carried}
use Rattle.facts.specs.declared.carried.Carried.TheVariants.{BuildId, Hostname, OsRelease, Version, Arch, NrCpus, CpuDesc, CpuId, TotalMem, CmdLine, PmuMappings, Stat, ClockId, SimpleperfFile, SimpleperfMetaInfo}
use Rattle.mappings.specs.PmuMappings.{pmu_names}
use Rattle.mappings.specs.MetaInfo.{meta_info}
use Rattle.mappings.specs.Tables.{within}
use Rattle.build_ids.specs.Table.{build_ids}
use Rattle.facts.specs.Facts.{Fact, builds, names, pairs, number, fact_of, read}
use Rattle.facts.specs.Head.{Answer, Sections, answer, after, entries, mark, carried, head_of, fitted}
use Rattle.facts.specs.Images.{head_in, image_within}
use Rattle.facts.specs.Laws.{FactsReadBack, head_sections, IsHead, Alike, HeadAgain, HeadsSpeak}
use Rattle.head_laws.proofs.Found.{not_ok, numbered, carried_rise, bytes, Small, Whole, among, AllWhole, Walked, walked, all_whole}

-- ---- of the carried features, each has the entry of its answer

among_carried : (a : Carried → Answer) (f : Carried) → among a carried (number f) ≡ bytes (a f)
unfolding carried
among_carried a BuildId = refl
among_carried a Hostname = refl
among_carried a OsRelease = refl
among_carried a Version = refl
among_carried a Arch = refl
among_carried a NrCpus = refl
among_carried a CpuDesc = refl
among_carried a CpuId = refl
among_carried a TotalMem = refl
among_carried a CmdLine = refl
among_carried a PmuMappings = refl
among_carried a Stat = refl
among_carried a ClockId = refl
among_carried a SimpleperfFile = refl
among_carried a SimpleperfMetaInfo = refl

whole-carried : (a : Carried → Answer) → AllWhole a carried → (f : Carried) → Whole (a f)
unfolding carried
whole-carried a w BuildId = w.0
whole-carried a w Hostname = w.1.0
whole-carried a w OsRelease = w.1.1.0
whole-carried a w Version = w.1.1.1.0
whole-carried a w Arch = w.1.1.1.1.0
whole-carried a w NrCpus = w.1.1.1.1.1.0
whole-carried a w CpuDesc = w.1.1.1.1.1.1.0
whole-carried a w CpuId = w.1.1.1.1.1.1.1.0
whole-carried a w TotalMem = w.1.1.1.1.1.1.1.1.0
whole-carried a w CmdLine = w.1.1.1.1.1.1.1.1.1.0
whole-carried a w PmuMappings = w.1.1.1.1.1.1.1.1.1.1.0
whole-carried a w Stat = w.1.1.1.1.1.1.1.1.1.1.1.0
whole-carried a w ClockId = w.1.1.1.1.1.1.1.1.1.1.1.1.0
whole-carried a w SimpleperfFile = w.1.1.1.1.1.1.1.1.1.1.1.1.1.0
whole-carried a w SimpleperfMetaInfo = w.1.1.1.1.1.1.1.1.1.1.1.1.1.1.0

none_second : (a : Carried → Answer) → among a carried 132 ≡ None
unfolding carried
none_second a = refl

-- ---- a head is the mark and the entries

pub record Parts (n : ℕ) (o : ByteOrder) (at : Sections) (h : List ℕ) : Type 0 where
  pub body : List ℕ
  pub is : entries (answer n o at) carried ≡ Ok body
  pub all : mark ++ body ≡ h

behind_mark : (n : ℕ) (o : ByteOrder) (at : Sections) (h : List ℕ) (r : Result (List ℕ) Fault) → entries (answer n o at) carried ≡ r → after (Ok mark) r ≡ Ok h → Parts n o at h
behind_mark n o at h (Ok b) e q = record { body = b; is = e; all = cc }
behind_mark n o at h (Err x) e q = not_ok x h q

parts_by : (n : ℕ) (o : ByteOrder) (at : Sections) (h : List ℕ) (b : Bool) → cond b (Err (section_fault 16 132 0)) (after (Ok mark) (entries (answer n o at) carried)) ≡ Ok h → Parts n o at h
parts_by n o at h true e = not_ok (section_fault 16 132 0) h e
parts_by n o at h false e = behind_mark n o at h (entries (answer n o at) carried) refl e

parts : (n : ℕ) (o : ByteOrder) (at : Sections) (h : List ℕ) → head_of n o at ≡ Ok h → Parts n o at h
parts n o at h e = parts_by n o at h (is_some (at 132)) e

-- an image that is a mark and entries
marked : (h body : List ℕ) → mark ++ body ≡ h → length h ≤ 16777216 → first_broken (run_from head_front 5 h) ≡ None → head_image h ≡ means Little (head_sections h)
unfolding number_of
marked h body e short sound =
    let long = ap length e in
    cond-false (ltb 16777216 (length h)) _ _ (le-ltb 16777216 (length h) short)
    ∙ (cond-false (ltb (length h) 5) _ _ (le-ltb (length h) 5 (omega arith))
    ∙ subst (λ (x : List ℕ). first_broken (run_from head_front 5 x) ≡ None → cond (head_marked x) (cond (eqb (number_at Little 2 x 3) 1) (Walked-as 17 Little (run_from head_front 5 x)) (faulty (image_fault 2 0))) (faulty (image_fault 2 0)) ≡ means Little (head_sections x)) e
    (λ q. ap (λ f. unless_at 17 f (means Little (head_sections (mark ++ body)))) q) sound)

-- ---- the number of rows decides whether a table is answered, and not which

module _ {X : Type 0} (feature : ℕ) (fact : List X → Fact) where
  table_fact : (n : ℕ) (r : Result (List X) Fault) (v : Fact) → fact_of fact (within feature n r) ≡ Ok v → (t : List X) × (r ≡ Ok t) × (fact t ≡ v)
  table_fact n (Err x) v e = not_ok x v e
  table_fact n (Ok t) v e = by (leb (length t) n) e
    where
      by : (b : Bool) → fact_of fact (cond b (Ok t) (Err (state_fault 31 feature))) ≡ Ok v → (u : List X) × (◌≡◌ {A = Result (List X) Fault} (Ok t) (Ok u)) × (fact u ≡ v)
      by true q = (t, refl, cc)
      by false q = not_ok (state_fault 31 feature) v q

  table_same : (n k : ℕ) (r : Result (List X) Fault) (v w : Fact) → fact_of fact (within feature n r) ≡ Ok v → fact_of fact (within feature k r) ≡ Ok w → v ≡ w
  table_same n k r v w e d =
      let (t, r₁, f₁) = table_fact n r v e in
      let (u, r₂, f₂) = table_fact k r w d in
      let q : t ≡ u = cc in
      sym f₁ ∙ (ap fact q ∙ f₂)

rows_same : (f : Carried) (n k : ℕ) (o : ByteOrder) (s : List ℕ) (v w : Fact) → read n f o s ≡ Ok v → read k f o s ≡ Ok w → v ≡ w
rows_same BuildId n k o s v w e d = table_same 2 builds n k (build_ids o s) v w e d
rows_same Hostname n k o s v w e d = cc
rows_same OsRelease n k o s v w e d = cc
rows_same Version n k o s v w e d = cc
rows_same Arch n k o s v w e d = cc
rows_same NrCpus n k o s v w e d = cc
rows_same CpuDesc n k o s v w e d = cc
rows_same CpuId n k o s v w e d = cc
rows_same TotalMem n k o s v w e d = cc
rows_same CmdLine n k o s v w e d = cc
rows_same PmuMappings n k o s v w e d = table_same 16 names n k (pmu_names o s) v w e d
rows_same Stat n k o s v w e d = cc
rows_same ClockId n k o s v w e d = cc
rows_same SimpleperfFile n k o s v w e d = cc
rows_same SimpleperfMetaInfo n k o s v w e d = table_same 129 pairs n k (meta_info o s) v w e d

present-same : (f : Carried) (n k : ℕ) (o : ByteOrder) (s : List ℕ) (x y : Result Fact Fault) → read n f o s ≡ x → read k f o s ≡ y → Whole (present x) → Whole (present y) → present x ≡ present y
present-same f n k o s (Ok v) (Ok w) e d p q = ap (λ (z : Fact). Ok (Some z)) (rows_same f n k o s v w e d)
present-same f n k o s (Err x) y e d p q = absurd p
present-same f n k o s (Ok v) (Err y) e d p q = absurd q

question-same : (f : Carried) (n k : ℕ) (o : ByteOrder) (s : Option (List ℕ)) → Whole (question (read n f) o s) → Whole (question (read k f) o s) → question (read n f) o s ≡ question (read k f) o s
question-same f n k o None p q = refl
question-same f n k o (Some s) p q = present-same f n k o s (read n f o s) (read k f o s) refl refl p q

-- ---- what the entries of a head are

module _ (laws : FactsReadBack) where
  -- a fact of a section fits an entry, and is read again from it
  small_read : (n : ℕ) (f : Carried) (o : ByteOrder) (s : List ℕ) (r : Result Fact Fault) → length s ≤ 16777216 → read n f o s ≡ r → Small (present r)
  small_read n f o s (Ok v) h e = omega (arith, (laws n f).short o s v h e)
  small_read n f o s (Err x) h e = tt

  small_question : (n : ℕ) (f : Carried) (o : ByteOrder) (s : Option (List ℕ)) → IfSome s (λ b. length b ≤ 16777216) → Small (question (read n f) o s)
  small_question n f o None h = tt
  small_question n f o (Some s) h = small_read n f o s (read n f o s) h refl

  pub small : (n : ℕ) (o : ByteOrder) (m : Features) (f : Carried) → Small (answer n o m.at f)
  small n o m f = small_question n f o (m.at (number f)) (m.short (number f))

  again-read : (n : ℕ) (f : Carried) (o : ByteOrder) (s : List ℕ) (r : Result Fact Fault) → length s ≤ 16777216 → read n f o s ≡ r → Whole (present r) → question (read n f) Little (bytes (present r)) ≡ present r
  again-read n f o s (Ok v) h e w = ap (λ (x : Result Fact Fault). present x) ((laws n f).again o s v h e)
  again-read n f o s (Err x) h e w = absurd w

  again-question : (n : ℕ) (f : Carried) (o : ByteOrder) (s : Option (List ℕ)) → IfSome s (λ b. length b ≤ 16777216) → Whole (question (read n f) o s) → question (read n f) Little (bytes (question (read n f) o s)) ≡ question (read n f) o s
  again-question n f o None h w = refl
  again-question n f o (Some s) h w = again-read n f o s (read n f o s) h refl w

  module _ (n : ℕ) (o : ByteOrder) (m : Features) (h : List ℕ) (head : IsHead n o m h) where
    found_in : Walked (run_from head_front 5 h) (among (answer n o m.at) carried)
    found_in =
        let p = parts n o m.at h head.is in
        subst (λ (x : List ℕ). Walked (run_from head_front 5 x) (among (answer n o m.at) carried)) p.all
        (walked (answer n o m.at) (small n o m) (length (mark ++ p.body)) carried p.body 0 carried_rise p.is)

    pub section_is : (f : Carried) → head_sections h (number f) ≡ bytes (answer n o m.at f)
    section_is f =
        cond-false (ltb 255 (number f)) None _ (le-ltb 255 (number f) (numbered f).low) ∙ (found_in.finds (number f) ∙ among_carried (answer n o m.at) f)

    second_absent : head_sections h 132 ≡ None
    second_absent = found_in.finds 132 ∙ none_second (answer n o m.at)

    pub whole : (f : Carried) → Whole (answer n o m.at f)
    whole f =
        let p = parts n o m.at h head.is in
        whole-carried (answer n o m.at) (all_whole (answer n o m.at) carried p.body p.is) f

    pub opens : head_image h ≡ means Little (head_sections h)
    opens = marked h p.body p.all head.short found_in.sound
      where
        p : Parts n o m.at h
        p = parts n o m.at h head.is

    pub answers : Alike n Little (head_sections h) n o m.at
    answers f =
        ap (λ (x : Option (List ℕ)). question (read n f) Little x) (section_is f) ∙ again-question n f o (m.at (number f)) (m.short (number f)) (whole f)

    pub itself : head_of n Little (head_sections h) ≡ Ok h
    itself =
        let p = parts n o m.at h head.is in
        cond-false (is_some (head_sections h 132)) _ _ (ap is_some second_absent)
        ∙ (ap (λ (b : Carried → Answer). after (Ok mark) (entries b carried)) (fun_ext answers)
        ∙ (ap (λ (r : Result (List ℕ) Fault). after (Ok mark) r) p.is ∙ ap (λ (x : List ℕ). Ok x) p.all))

    -- also by the head call, which opens it as an image of any kind
    pub again : HeadAgain n h
    unfolding HeadAgain
    again most room l r =
        let p = parts n o m.at h head.is in
        let is_head : head_marked h ≡ true = subst (λ (x : List ℕ). head_marked x ≡ true) p.all refl in
        let image : image_within most h ≡ means Little (head_sections h) = cond-false (ltb most (length h)) _ _ (le-ltb most (length h) l) ∙ (cond-true (head_marked h) _ _ is_head ∙ opens) in
        ap (λ (i : Meaning). fitted room (head_in n i)) image
        ∙ (ap (fitted room) itself ∙ cond-false (ltb (min room 16777216) (length h)) _ _ (le-ltb (min room 16777216) (length h) (omega (arith, head.short))))

  -- heads of two stores
  module _ (n : ℕ) (o : ByteOrder) (m : Features) (h : List ℕ) (head : IsHead n o m h) (k : ℕ) (q : ByteOrder) (t : Features) (g : List ℕ) (other : IsHead k q t g) where
    pub equal : Alike n o m.at k q t.at → h ≡ g
    equal same =
        let x = parts n o m.at h head.is in
        let y = parts k q t.at g other.is in
        let e : Ok x.body ≡ Ok y.body = sym x.is ∙ (ap (λ (b : Carried → Answer). entries b carried) (fun_ext same) ∙ y.is) in
        let b : x.body ≡ y.body = cc in
        sym x.all ∙ (ap (λ (z : List ℕ). mark ++ z) b ∙ y.all)

    pub entry_equal : (f : Carried) → answer n o m.at f ≡ answer k q t.at f → head_sections h (number f) ≡ head_sections g (number f)
    entry_equal f e = section_is n o m h head f ∙ (ap bytes e ∙ sym (section_is k q t g other f))

    -- what is written of two answers tells them apart, whatever rows they had
    pub entry_alike : (f : Carried) → head_sections h (number f) ≡ head_sections g (number f) → answer n o m.at f ≡ answer k q t.at f
    entry_alike f e =
        let here = answers n o m h head f in
        let there = answers k q t g other f in
        let moved : answer k Little (head_sections h) f ≡ answer k q t.at f = ap (λ (x : Option (List ℕ)). question (read k f) Little x) e ∙ there in
        sym here
        ∙ (question-same f n k Little (head_sections h (number f)) (subst Whole (sym here) (whole n o m h head f)) (subst Whole (sym moved) (whole k q t g other f))
        ∙ moved)

    pub alike : h ≡ g → Alike n o m.at k q t.at
    alike e f = entry_alike f (ap (λ (x : List ℕ). head_sections x (number f)) e)

  pub heads_speak : HeadsSpeak
  heads_speak n o m h head =
      record {
        opens = opens n o m h head;
        answers = answers n o m h head;
        itself = itself n o m h head;
        again = again n o m h head;
        equal = equal n o m h head;
        alike = alike n o m h head;
        entry_equal = entry_equal n o m h head;
        entry_alike = entry_alike n o m h head;
      }
