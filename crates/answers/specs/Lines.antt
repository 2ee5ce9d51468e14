-- The answer to what a line asks.
use Rattle.std.specs.Prelude.{ℕ, ◌%◌, List, Some, None, Ok, Option}
use Rattle.wire.specs.declared.order.ByteOrder.{ByteOrder}
use Rattle.section_store.specs.Sections.{unless_long}
use Rattle.perf_data.specs.Questions.{question}
use Rattle.perf_data.specs.Texts.{feature_string, command_line}
use Rattle.fixed_facts.specs.Fixed.{of_first, nr_cpus, total_mem, sample_time_range, clock_frequency, compression_info, clock_data, stats}
use Rattle.mappings.specs.Tables.{bytes_in}
use Rattle.simpleperf.specs.Tables.{symbol_tables}
use Rattle.dso_key.specs.Detect.{detect}
use Rattle.dso_key.specs.Modes.{mode_of}
use Rattle.text.specs.Pieces.{shown}
use Rattle.answers.specs.Answers.{answer_text}
use Rattle.answers.specs.Rows.{pmu_text, meta_text, builds_text}
use Rattle.answers.specs.Texts.{text_text, texts_text, nr_cpus_text, total_mem_text, sample_time_range_text, clock_frequency_text, compression_info_text, clock_data_text, present_text, key_text, files_text}
use Rattle.answers.specs.declared.question.Question.{Question}
use Rattle.answers.specs.declared.question.Question.TheVariants.{Hostname, OsRelease, PerfVersion, Arch, CpuDesc, CpuId, Cmdline, NrCpus, TotalMem, SampleTimeRange, ClockFrequency, CompressionInfo, ClockData, IsStats, PmuMappings, MetaInfo, BuildIds, SymbolTables, Detect, Shown}

-- A section of more than 16,777,216 bytes is none.
abbrev pub short_section : Option (List ℕ) → Option (List ℕ)
short_section None = None
short_section (Some bytes) = unless_long bytes

-- The answer to a line: its question, order and number, how many rows are lent, and its section. `detect` asks for the key of a
-- path by a misc, whose lowest three bits are the mode, and `shown` for the shown form of any bytes.
abbrev pub line_text : Question → ByteOrder → ℕ → ℕ → Option (List ℕ) → List ℕ
line_text Hostname o number n s = answer_text text_text (question (feature_string 3) o (short_section s))
line_text OsRelease o number n s = answer_text text_text (question (feature_string 4) o (short_section s))
line_text PerfVersion o number n s = answer_text text_text (question (feature_string 5) o (short_section s))
line_text Arch o number n s = answer_text text_text (question (feature_string 6) o (short_section s))
line_text CpuDesc o number n s = answer_text text_text (question (feature_string 8) o (short_section s))
line_text CpuId o number n s = answer_text text_text (question (feature_string 9) o (short_section s))
line_text Cmdline o number n s = answer_text texts_text (question command_line o (short_section s))
line_text NrCpus o number n s = answer_text nr_cpus_text (question (of_first 8 nr_cpus) o (short_section s))
line_text TotalMem o number n s = answer_text total_mem_text (question (of_first 8 total_mem) o (short_section s))
line_text SampleTimeRange o number n s = answer_text sample_time_range_text (question (of_first 16 sample_time_range) o (short_section s))
line_text ClockFrequency o number n s = answer_text clock_frequency_text (question (of_first 8 clock_frequency) o (short_section s))
line_text CompressionInfo o number n s = answer_text compression_info_text (question (of_first 20 compression_info) o (short_section s))
line_text ClockData o number n s = answer_text clock_data_text (question (of_first 24 clock_data) o (short_section s))
line_text IsStats o number n s = answer_text (λ _. present_text) (question stats o (short_section s))
line_text PmuMappings o number n s = pmu_text o (short_section s) n
line_text MetaInfo o number n s = meta_text o (short_section s) n
line_text BuildIds o number n s = builds_text o (short_section s) n
line_text SymbolTables o number n s = answer_text files_text (question symbol_tables o (short_section s))
line_text Detect o number n s = answer_text key_text (Ok (detect (bytes_in s) (mode_of (number % 8))))
line_text Shown o number n s = text_text (shown (bytes_in s))
