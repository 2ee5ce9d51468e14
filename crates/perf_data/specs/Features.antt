-- The names of the features: those of `enum` HEADER_ in perf's header.h, and those of simpleperf's
-- record_file_format.h.
use Rattle.std.specs.Prelude.{ℕ, cond, List, [], ◌∷◌, Some, None, codes, Option, ◌==◌}
use Rattle.std.specs.Borrow.{Bor}

pub record Named : Type 0 where
  pub number : ℕ
  pub name : List ℕ

infixl 20 ◌is◌
abbrev pub ◌is◌ : ℕ → List ℕ → Named
n is name = record { number = n; name = name }

abbrev pub features : List Named
features =
    (1 is codes "TRACING_DATA")
    ∷ (2 is codes "BUILD_ID")
    ∷ (3 is codes "HOSTNAME")
    ∷ (4 is codes "OSRELEASE")
    ∷ (5 is codes "VERSION")
    ∷ (6 is codes "ARCH")
    ∷ (7 is codes "NRCPUS")
    ∷ (8 is codes "CPUDESC")
    ∷ (9 is codes "CPUID")
    ∷ (10 is codes "TOTAL_MEM")
    ∷ (11 is codes "CMDLINE")
    ∷ (12 is codes "EVENT_DESC")
    ∷ (13 is codes "CPU_TOPOLOGY")
    ∷ (14 is codes "NUMA_TOPOLOGY")
    ∷ (15 is codes "BRANCH_STACK")
    ∷ (16 is codes "PMU_MAPPINGS")
    ∷ (17 is codes "GROUP_DESC")
    ∷ (18 is codes "AUXTRACE")
    ∷ (19 is codes "STAT")
    ∷ (20 is codes "CACHE")
    ∷ (21 is codes "SAMPLE_TIME")
    ∷ (22 is codes "MEM_TOPOLOGY")
    ∷ (23 is codes "CLOCKID")
    ∷ (24 is codes "DIR_FORMAT")
    ∷ (25 is codes "BPF_PROG_INFO")
    ∷ (26 is codes "BPF_BTF")
    ∷ (27 is codes "COMPRESSED")
    ∷ (28 is codes "CPU_PMU_CAPS")
    ∷ (29 is codes "CLOCK_DATA")
    ∷ (30 is codes "HYBRID_TOPOLOGY")
    ∷ (31 is codes "PMU_CAPS")
    ∷ (128 is codes "SIMPLEPERF_FILE")
    ∷ (129 is codes "SIMPLEPERF_META_INFO")
    ∷ (130 is codes "SIMPLEPERF_DEBUG_UNWIND")
    ∷ (131 is codes "SIMPLEPERF_DEBUG_UNWIND_FILE")
    ∷ (132 is codes "SIMPLEPERF_FILE2")
    ∷ []

abbrev pub look_up : ℕ → List Named → Option (List ℕ)
look_up n [] = None
look_up n (f ∷ fs) = cond (n == f.number) (Some f.name) (look_up n fs)

abbrev pub name_of : ℕ → Option (List ℕ)
name_of n = look_up n features

abbrev pub named : Option (Bor (List ℕ)) → Option (List ℕ)
named None = None
named (Some r) = Some r.now
