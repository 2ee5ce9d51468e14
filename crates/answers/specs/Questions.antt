-- The words that name the questions: those of docs/ASK.md.
use Rattle.std.specs.Prelude.{◌≡◌, ℕ, List, Result, MatchResult, codes}
use Rattle.answers.specs.declared.question.Question.{Question}
use Rattle.answers.specs.declared.question.Question.TheVariants.{Hostname, OsRelease, PerfVersion, Arch, CpuDesc, CpuId, Cmdline, NrCpus, TotalMem, SampleTimeRange, ClockFrequency, CompressionInfo, ClockData, IsStats, PmuMappings, MetaInfo, BuildIds, SymbolTables, Detect, Shown}
use Rattle.answers.specs.declared.question.UnknownQuestion.{UnknownQuestion}

abbrev pub question_word : Question → List ℕ
question_word Hostname = codes "hostname"
question_word OsRelease = codes "os_release"
question_word PerfVersion = codes "perf_version"
question_word Arch = codes "arch"
question_word CpuDesc = codes "cpu_desc"
question_word CpuId = codes "cpu_id"
question_word Cmdline = codes "cmdline"
question_word NrCpus = codes "nr_cpus"
question_word TotalMem = codes "total_mem"
question_word SampleTimeRange = codes "sample_time_range"
question_word ClockFrequency = codes "clock_frequency"
question_word CompressionInfo = codes "compression_info"
question_word ClockData = codes "clock_data"
question_word IsStats = codes "is_stats"
question_word PmuMappings = codes "pmu_mappings"
question_word MetaInfo = codes "meta_info"
question_word BuildIds = codes "build_ids"
question_word SymbolTables = codes "symbol_tables"
question_word Detect = codes "detect"
question_word Shown = codes "shown"

-- A word is read as the question that it names, and refused where it names none.
abbrev pub ReadsQuestion : List ℕ → Result Question UnknownQuestion → Type 0
ReadsQuestion word r = MatchResult r (λ q. word ≡ question_word q) (λ _. (q : Question) → word ≡ question_word q → ⊥)
