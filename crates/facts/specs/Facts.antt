-- The facts of the carried features: what their sections are read as, and how a head has them.
use Rattle.std.specs.Prelude.{ℕ, List, [], ◌++◌, Ok, Err, Result}
use Rattle.std.specs.List.{flat_map}
use Rattle.wire.specs.declared.order.ByteOrder.{ByteOrder}
use Rattle.wire.specs.declared.refusal.Fault.{Fault}
use Rattle.perf_data.specs.Texts.{feature_string, command_line}
use Rattle.fixed_facts.specs.Fixed.{of_first, nr_cpus, total_mem, clock_frequency, stats}
use Rattle.fixed_facts.specs.declared.feature_sections.ClockFrequency.{ClockFrequency}
use Rattle.fixed_facts.specs.declared.feature_sections.NrCpus.{NrCpus as Cpus}
use Rattle.fixed_facts.specs.declared.feature_sections.TotalMem.{TotalMem as Memory}
use Rattle.mappings.specs.PmuMappings.{pmu_names}
use Rattle.mappings.specs.MetaInfo.{meta_info}
use Rattle.mappings.specs.Tables.{within}
use Rattle.build_ids.specs.Table.{Entry, build_ids}
use Rattle.simpleperf.specs.Tables.{File, symbol_tables}
use Rattle.facts.specs.declared.carried.Carried.{Carried}
use Rattle.facts.specs.declared.carried.Carried.TheVariants.{BuildId, Hostname, OsRelease, Version, Arch, NrCpus, CpuDesc, CpuId, TotalMem, CmdLine, PmuMappings, Stat, ClockId, SimpleperfFile, SimpleperfMetaInfo}
use Rattle.facts.specs.Written.{u32, u64, text_bytes, counted_bytes, name_bytes, pair_bytes, build_bytes, sized_bytes}

-- One type for all of them.
pub data Fact : Type 0 where
  text : List ℕ → Fact
  texts : List (List ℕ) → Fact
  cpus : Cpus → Fact
  memory : Memory → Fact
  clock : ClockFrequency → Fact
  names : List (ℕ × List ℕ) → Fact
  pairs : List (List ℕ × List ℕ) → Fact
  builds : List Entry → Fact
  files : List File → Fact
  mark : Fact

-- A feature's number.
abbrev pub number : Carried → ℕ
number BuildId = 2
number Hostname = 3
number OsRelease = 4
number Version = 5
number Arch = 6
number NrCpus = 7
number CpuDesc = 8
number CpuId = 9
number TotalMem = 10
number CmdLine = 11
number PmuMappings = 16
number Stat = 19
number ClockId = 23
number SimpleperfFile = 128
number SimpleperfMetaInfo = 129

abbrev pub fact_of : {V : Type 0} → (V → Fact) → Result V Fault → Result Fact Fault
fact_of fact (Ok v) = Ok (fact v)
fact_of fact (Err f) = Err f

-- What a section says, where a table may take n rows: as the question about the feature has it.
abbrev pub read : ℕ → Carried → ByteOrder → List ℕ → Result Fact Fault
read n BuildId o s = fact_of builds (within 2 n (build_ids o s))
read n Hostname o s = fact_of text (feature_string 3 o s)
read n OsRelease o s = fact_of text (feature_string 4 o s)
read n Version o s = fact_of text (feature_string 5 o s)
read n Arch o s = fact_of text (feature_string 6 o s)
read n NrCpus o s = fact_of cpus (of_first 8 nr_cpus o s)
read n CpuDesc o s = fact_of text (feature_string 8 o s)
read n CpuId o s = fact_of text (feature_string 9 o s)
read n TotalMem o s = fact_of memory (of_first 8 total_mem o s)
read n CmdLine o s = fact_of texts (command_line o s)
read n PmuMappings o s = fact_of names (within 16 n (pmu_names o s))
read n Stat o s = fact_of (λ _. mark) (stats o s)
read n ClockId o s = fact_of clock (of_first 8 clock_frequency o s)
read n SimpleperfFile o s = fact_of files (symbol_tables o s)
read n SimpleperfMetaInfo o s = fact_of pairs (within 129 n (meta_info o s))

-- The bytes of a fact in a head.
unfoldable pub write : Fact → List ℕ
write (text t) = text_bytes t
write (texts ts) = counted_bytes text_bytes ts
write (cpus c) = u32 c.nr_cpus_available ++ u32 c.nr_cpus_online
write (memory m) = u64 m.kilobytes
write (clock c) = u64 c.ns_per_tick
write (names ns) = counted_bytes name_bytes ns
write (pairs ps) = flat_map pair_bytes ps
write (builds es) = flat_map build_bytes es
write (files fs) = flat_map sized_bytes fs
write mark = []
