-- What a head call refuses by itself: the numbers of its refusals are 31 at most.
use Rattle.std.proofs.Common.{◌≡◌, ℕ, zero, suc, ◌+◌, ◌-◌, ◌≤◌, Bool, true, false, cond, eqb, leb, ltb, List, [], ◌∷◌, length, take, drop, is_some, Some, None, Ok, Err, Option, Result, subst, lit≤}
use Rattle.wire.specs.Faults.{section_fault, state_fault}
use Rattle.wire.specs.Numbers.{number as number_read}
use Rattle.wire.specs.declared.order.ByteOrder.{ByteOrder}
use Rattle.wire.specs.declared.refusal.Fault.{Fault}
use Rattle.text.specs.Pieces.{well_formed}
use Rattle.text.specs.Strings.{Read, header_text, before_nul}
use Rattle.text.specs.declared.strings.TextFault.{TextFault}
use Rattle.text.specs.declared.strings.TextFault.TheVariants.{ShortLength, PastEnd, IllFormed}
use Rattle.table.specs.Order.{Order, numbers, texts as by_text}
use Rattle.perf_data.specs.Texts as texts
use Rattle.perf_data.specs.Texts.{texts_in}
use Rattle.perf_data.specs.Questions.{present, question}
use Rattle.fixed_facts.specs.Fixed as fixed
use Rattle.mappings.specs.Tables as tables
use Rattle.mappings.specs.PmuMappings as pmu
use Rattle.mappings.specs.PmuMappings.{ItemRead, items_in}
use Rattle.mappings.specs.MetaInfo as meta
use Rattle.mappings.specs.MetaInfo.{Piece}
use Rattle.simpleperf.specs.Parse as parse
use Rattle.simpleperf.specs.Parse.{Got, items, run_of}
use Rattle.simpleperf.specs.Tables as symbols
use Rattle.facts.specs.declared.carried.Carried.{Carried}
use Rattle.facts.specs.declared.carried.Carried.TheVariants.{BuildId, Hostname, OsRelease, Version, Arch, NrCpus, CpuDesc, CpuId, TotalMem, CmdLine, PmuMappings, Stat, ClockId, SimpleperfFile, SimpleperfMetaInfo}
use Rattle.build_ids.specs.Table.{build_ids}
use Rattle.facts.specs.Facts.{Fact, names, pairs, builds, number, fact_of, read}
use Rattle.facts.specs.Head.{Answer, Sections, answer, entry, after, entries, mark, carried, head_of}

abbrev pub Low : {V : Type 0} → Result V Fault → Type 0
Low (Ok v) = Unit {0}
Low (Err f) = f.number ≤ 31

low_cond : {V : Type 0} (b : Bool) (x y : Result V Fault) → Low x → Low y → Low (cond b x y)
low_cond true x y p q = p
low_cond false x y p q = q

-- ---- facts of a fixed length

fixed_or : (f : Fault) (x : Option ℕ) → f.number ≤ 31 → Low (fixed.number_or f x)
fixed_or f None p = p
fixed_or f (Some n) p = tt

fixed_then : {V W : Type 0} (r : Result V Fault) (k : V → Result W Fault) → Low r → ((v : V) → Low (k v)) → Low (fixed.and_then r k)
fixed_then (Ok v) k p q = q v
fixed_then (Err f) k p q = p

cpus_low : (o : ByteOrder) (s : List ℕ) → Low (fixed.nr_cpus o s)
cpus_low o s =
    fixed_then (fixed.field 7 o 4 s 0) _ (fixed_or (section_fault 11 7 0) (number_read o 4 (drop 0 s)) (lit≤ tt))
    (λ a. fixed_then (fixed.field 7 o 4 s 4) _ (fixed_or (section_fault 11 7 4) (number_read o 4 (drop 4 s)) (lit≤ tt)) (λ b. tt))

memory_low : (o : ByteOrder) (s : List ℕ) → Low (fixed.total_mem o s)
memory_low o s =
    fixed_then (fixed.whole64 10 o s) _ (fixed_or (section_fault 6 10 0) (number_read o 8 s) (lit≤ tt)) (λ n. tt)

clock_low : (o : ByteOrder) (s : List ℕ) → Low (fixed.clock_frequency o s)
clock_low o s =
    fixed_then (fixed.whole64 23 o s) _ (fixed_or (section_fault 6 23 0) (number_read o 8 s) (lit≤ tt)) (λ n. tt)

-- ---- header texts

text_low : (feature at : ℕ) (e : TextFault) → (texts.text_fault feature at e).number ≤ 31
text_low feature at ShortLength = lit≤ tt
text_low feature at PastEnd = lit≤ tt
text_low feature at IllFormed = lit≤ tt

string_low : (feature : ℕ) (r : Result Read TextFault) → Low (texts.text_read feature r)
string_low feature (Ok r) = tt
string_low feature (Err e) = text_low feature 0 e

text_before : (t : List ℕ) (r : Result (List (List ℕ)) Fault) → Low r → Low (texts.before t r)
text_before t (Ok ts) p = tt
text_before t (Err f) p = p

text_more : (feature at : ℕ) (r : Result Read TextFault) (k : List ℕ → Result (List (List ℕ)) Fault) → ((t : List ℕ) → Low (k t)) → Low (texts.and_more feature at r k)
text_more feature at (Ok r) k q = text_before r.text (k r.rest) (q r.rest)
text_more feature at (Err e) k q = text_low feature at e

texts_low : (o : ByteOrder) (total n : ℕ) (s : List ℕ) → Low (texts_in 11 o total n s)
unfolding texts_in
texts_low o total zero s = tt
texts_low o total (suc n) s =
    text_more 11 (total - length s) (header_text o s) (λ t. texts_in 11 o total n t) (λ t. texts_low o total n t)

command_low : (o : ByteOrder) (s : List ℕ) (x : Option ℕ) → Low (texts.counted o s x)
command_low o s None = lit≤ tt
command_low o s (Some n) = texts_low o (length s) n (drop 4 s)

-- ---- tables

table_low : {K X : Type 0} (o : Order K) (key : X → K) (r : Result (List X) Fault) → Low r → Low (tables.table_by o key r)
table_low o key (Ok xs) p = tt
table_low o key (Err f) p = p

within_low : {X : Type 0} (feature n : ℕ) (r : Result (List X) Fault) → Low r → Low (tables.within feature n r)
within_low feature n (Ok t) p = low_cond (leb (length t) n) (Ok t) (Err (state_fault 31 feature)) tt (lit≤ tt)
within_low feature n (Err f) p = p

table_before : {X : Type 0} (x : X) (r : Result (List X) Fault) → Low r → Low (tables.before x r)
table_before x (Ok xs) p = tt
table_before x (Err f) p = p

module _ {X : Type 0} (make : ℕ → ℕ → List ℕ → X) (o : ByteOrder) where
  named_low : (key at : ℕ) (past : List ℕ) (r : Result Read TextFault) → Low (pmu.named make o key at past r)
  named_low key at past (Ok r) = tt
  named_low key at past (Err ShortLength) = lit≤ tt
  named_low key at past (Err PastEnd) = lit≤ tt
  named_low key at past (Err IllFormed) = tt

  numbered_low : (at : ℕ) (s : List ℕ) (x : Option ℕ) → Low (pmu.numbered make o at s x)
  numbered_low at s None = lit≤ tt
  numbered_low at s (Some key) = named_low key (at + 4) (pmu.past_text o s) (header_text o s)

  given_low : (x : Option X) (r : Result (List X) Fault) → Low r → Low (pmu.given_before x r)
  given_low None r p = p
  given_low (Some x) r p = table_before x r p

  more_low : (r : Result (ItemRead X) Fault) (k : List ℕ → Result (List X) Fault) → Low r → ((t : List ℕ) → Low (k t)) → Low (pmu.and_more r k)
  more_low (Ok i) k p q = given_low i.given (k i.rest) (q i.rest)
  more_low (Err f) k p q = p

  items_low : (total n : ℕ) (s : List ℕ) → Low (items_in make o total n s)
  unfolding items_in
  items_low total zero s = tt
  items_low total (suc n) s =
      more_low (pmu.item_at make o (total - length s) s) (λ t. items_in make o total n t) (numbered_low (total - length s) (drop 4 s) (number_read o 4 s)) (λ t. items_low total n t)

  counted_low : (s : List ℕ) (x : Option ℕ) → Low (pmu.counted_items make o s x)
  counted_low s None = lit≤ tt
  counted_low s (Some n) = items_low (length s) n (drop 4 s)

checked_low : {V : Type 0} (p : Piece) (r : Result V Fault) → Low r → Low (meta.checked p r)
checked_low p r q = low_cond (well_formed p.bytes) r (Err (section_fault 10 129 p.at)) q (lit≤ tt)

paired_low : {X : Type 0} (make : Piece → Piece → X) (ps : List Piece) → Low (meta.paired make ps)
paired_low make [] = tt
paired_low make (key ∷ []) = tt
paired_low make (key ∷ value ∷ more) =
    checked_low key (meta.checked value (tables.before (make key value) (meta.paired make more)))
    (checked_low value (tables.before (make key value) (meta.paired make more)) (table_before (make key value) (meta.paired make more) (paired_low make more)))

-- ---- symbol tables

got_then : {V W : Type 0} (r : Result (Got V) Fault) (k : V → List ℕ → Result (Got W) Fault) → Low r → ((v : V) (t : List ℕ) → Low (k v t)) → Low (parse.and_then r k)
got_then (Ok g) k p q = q g.value g.rest
got_then (Err f) k p q = p

number_low : {N : Type 0} (short : Fault) (width : ℕ) (s : List ℕ) (x : Option N) → short.number ≤ 31 → Low (parse.read_number short width s x)
number_low short width s None p = p
number_low short width s (Some n) p = tt

u32_low : (o : ByteOrder) (size : ℕ) (s : List ℕ) → Low (symbols.u32_in o size s)
u32_low o size s = number_low (symbols.fault_at 11 size s) 4 s (number_read o 4 s) (lit≤ tt)

u64_low : (o : ByteOrder) (size : ℕ) (s : List ℕ) → Low (symbols.u64_in o size s)
u64_low o size s = number_low (symbols.fault_at 11 size s) 8 s (number_read o 8 s) (lit≤ tt)

ended_low : (size : ℕ) (s : List ℕ) → Low (symbols.text_in size s)
ended_low size s =
    low_cond (eqb (length (before_nul s)) (length s)) (Err (symbols.fault_at 15 size s)) _ (lit≤ tt)
    (low_cond (well_formed (before_nul s)) (parse.got (before_nul s) (drop (length (before_nul s) + 1) s)) (Err (symbols.fault_at 10 size s)) tt (lit≤ tt))

module _ {V : Type 0} (item : List ℕ → Result (Got V) Fault) (low : (s : List ℕ) → Low (item s)) where
  all_low : (n : ℕ) (s : List ℕ) → Low (items item n s)
  unfolding items
  all_low zero s = tt
  all_low (suc n) s = got_then (item s) _ (low s) (λ v t. got_then (items item n t) _ (all_low n t) (λ vs u. tt))

  run_then : (r : Result (Got V) Fault) (k : List ℕ → Result (List V) Fault) → Low r → ((t : List ℕ) → Low (k t)) → Low (parse.then_run r k)
  run_then (Ok g) k p q = by (k g.rest) (q g.rest)
    where
      by : (r : Result (List V) Fault) → Low r → Low (parse.before g.value r)
      by (Ok vs) h = tt
      by (Err f) h = h
  run_then (Err f) k p q = p

  run_low : (k : ℕ) (s : List ℕ) → Low (run_of item k s)
  unfolding run_of
  run_low k [] = tt
  run_low zero (b ∷ s) = tt
  run_low (suc k) (b ∷ s) = run_then (item (b ∷ s)) (run_of item k) (low (b ∷ s)) (λ t. run_low k t)

list_low : {V : Type 0} (item : ByteOrder → ℕ → List ℕ → Result (Got V) Fault) (o : ByteOrder) (size : ℕ) (s : List ℕ) → ((t : List ℕ) → Low (item o size t)) → Low (symbols.counted item o size s)
list_low item o size s low =
    got_then (symbols.count_in o size s) (items (item o size))
    (got_then (symbols.u32_in o size s) _ (u32_low o size s) (λ n t. low_cond (ltb (length t) n) (Err (symbols.fault_at 14 size s)) (parse.got n t) (lit≤ tt) tt))
    (all_low (item o size) low)

symbol_low : (o : ByteOrder) (size : ℕ) (s : List ℕ) → Low (symbols.symbol_in o size s)
symbol_low o size s =
    got_then (symbols.u64_in o size s) _ (u64_low o size s)
    (λ a t. got_then (symbols.u32_in o size t) _ (u32_low o size t) (λ l u. got_then (symbols.text_in size u) _ (ended_low size u) (λ n v. tt)))

offset_low : (o : ByteOrder) (size : ℕ) (s : List ℕ) → Low (symbols.u64_or_none o size s)
offset_low o size [] = tt
offset_low o size (b ∷ s) = u64_low o size (b ∷ s)

info_low : (o : ByteOrder) (size type : ℕ) (s : List ℕ) → Low (symbols.info_in o size type s)
info_low o size type s =
    low_cond (eqb type 3) _ _ (got_then (symbols.counted symbols.u64_in o size s) _ (list_low symbols.u64_in o size s (u64_low o size)) (λ v t. tt))
    (low_cond (eqb type 2) _ _ (got_then (symbols.u64_or_none o size s) _ (offset_low o size s) (λ v t. tt))
    (low_cond (eqb type 1) _ _ (got_then (symbols.u64_or_none o size s) _ (offset_low o size s) (λ v t. tt)) tt))

type_low : (o : ByteOrder) (size : ℕ) (s : List ℕ) → Low (symbols.type_in o size s)
type_low o size s =
    got_then (symbols.u32_in o size s) _ (u32_low o size s)
    (λ n t. low_cond (ltb 5 n) (Err (symbols.fault_at 13 size s)) (parse.got n t) (lit≤ tt) tt)

file_low : (o : ByteOrder) (size : ℕ) (s : List ℕ) → Low (symbols.file_in o size s)
file_low o size s =
    got_then (symbols.text_in size s) _ (ended_low size s)
    (λ p t. got_then (symbols.type_in o size t) _ (type_low o size t)
    (λ y u. got_then (symbols.u64_in o size u) _ (u64_low o size u)
    (λ a v. got_then (symbols.counted symbols.symbol_in o size v) _ (list_low symbols.symbol_in o size v (symbol_low o size))
    (λ l w. got_then (symbols.info_in o size y w) _ (info_low o size y w) (λ i x. tt)))))

sized_low : (o : ByteOrder) (total : ℕ) (s : List ℕ) → Low (symbols.sized_file o total s)
sized_low o total s =
    got_then (parse.number_or (section_fault 11 128 (total - length s)) o 4 s) _ (number_low (section_fault 11 128 (total - length s)) 4 s (number_read o 4 s) (lit≤ tt))
    (λ len t. low_cond (ltb (length t) len) _ _ (lit≤ tt) (got_then (symbols.file_in o len (take len t)) _ (file_low o len (take len t)) (λ v u. tt)))

-- ---- the head

fact_low : {V : Type 0} (fact : V → Fact) (r : Result V Fault) → Low r → Low (fact_of fact r)
fact_low fact (Ok v) p = tt
fact_low fact (Err f) p = p

read_low : (n : ℕ) (f : Carried) (o : ByteOrder) (s : List ℕ) → Low (read n f o s)
read_low n BuildId o s = fact_low builds (tables.within 2 n (build_ids o s)) (within_low 2 n (build_ids o s) tt)
read_low n Hostname o s = fact_low _ _ (string_low 3 (header_text o s))
read_low n OsRelease o s = fact_low _ _ (string_low 4 (header_text o s))
read_low n Version o s = fact_low _ _ (string_low 5 (header_text o s))
read_low n Arch o s = fact_low _ _ (string_low 6 (header_text o s))
read_low n NrCpus o s = fact_low _ _ (cpus_low o (take 8 s))
read_low n CpuDesc o s = fact_low _ _ (string_low 8 (header_text o s))
read_low n CpuId o s = fact_low _ _ (string_low 9 (header_text o s))
read_low n TotalMem o s = fact_low _ _ (memory_low o (take 8 s))
read_low n CmdLine o s = fact_low _ _ (command_low o s (number_read o 4 s))
read_low n PmuMappings o s =
    fact_low names (tables.within 16 n (pmu.pmu_names o s))
    (within_low 16 n (pmu.pmu_names o s) (table_low numbers (λ e. e.0) (pmu.pmu_items o s) (counted_low (λ key at name. (key, name)) o s (number_read o 4 s))))
read_low n Stat o s = tt
read_low n ClockId o s = fact_low _ _ (clock_low o (take 8 s))
read_low n SimpleperfFile o s = fact_low _ _ (run_low _ (sized_low o (length s)) (length s) s)
read_low n SimpleperfMetaInfo o s =
    fact_low pairs (tables.within 129 n (meta.meta_info o s))
    (within_low 129 n (meta.meta_info o s) (table_low by_text (λ e. e.0) (meta.meta_pairs s) (paired_low (λ key value. (key.bytes, value.bytes)) (meta.pieces 0 s))))

present_low : {V : Type 0} (r : Result V Fault) → Low r → Low (present r)
present_low (Ok v) p = tt
present_low (Err f) p = p

question_low : (n : ℕ) (f : Carried) (o : ByteOrder) (s : Option (List ℕ)) → Low (question (read n f) o s)
question_low n f o None = tt
question_low n f o (Some s) = present_low (read n f o s) (read_low n f o s)

entry_low : (f : Carried) (r : Answer) → Low r → Low (entry f r)
entry_low f (Ok None) p = tt
entry_low f (Ok (Some v)) p = tt
entry_low f (Err e) p = p

after_low : (x y : Result (List ℕ) Fault) → Low x → Low y → Low (after x y)
after_low (Ok x) (Ok y) p q = tt
after_low (Ok x) (Err e) p q = q
after_low (Err e) y p q = p

entries_low : (n : ℕ) (o : ByteOrder) (at : Sections) (fs : List Carried) → Low (entries (answer n o at) fs)
entries_low n o at [] = tt
entries_low n o at (f ∷ fs) =
    after_low (entry f (answer n o at f)) (entries (answer n o at) fs) (entry_low f (answer n o at f) (question_low n f o (at (number f)))) (entries_low n o at fs)

head-low : (n : ℕ) (o : ByteOrder) (at : Sections) → Low (head_of n o at)
head-low n o at =
    low_cond (is_some (at 132)) (Err (section_fault 16 132 0)) (after (Ok mark) (entries (answer n o at) carried)) (lit≤ tt)
    (after_low (Ok mark) (entries (answer n o at) carried) tt (entries_low n o at carried))

pub head_fault : (n : ℕ) (o : ByteOrder) (at : Sections) (e : Fault) → head_of n o at ≡ Err e → e.number ≤ 31
head_fault n o at e is = subst (λ (r : Result (List ℕ) Fault). Low r) is (head-low n o at)
