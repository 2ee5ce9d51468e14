-- The answers of docs/ASK.md, byte by byte.
use Rattle.std.specs.Prelude.{ℕ, ◌++◌, List, [], ◌∷◌, Some, None, Option, codes, length, map}
use Rattle.std.specs.List.{flat_map}
use Rattle.std.specs.Fmt.{decimal}
use Rattle.fixed_facts.specs.declared.feature_sections.NrCpus.{NrCpus}
use Rattle.fixed_facts.specs.declared.feature_sections.TotalMem.{TotalMem}
use Rattle.fixed_facts.specs.declared.feature_sections.SampleTimeRange.{SampleTimeRange}
use Rattle.fixed_facts.specs.declared.feature_sections.ClockFrequency.{ClockFrequency}
use Rattle.fixed_facts.specs.declared.feature_sections.CompressionInfo.{CompressionInfo}
use Rattle.fixed_facts.specs.declared.feature_sections.ClockData.{ClockData}
use Rattle.hexadecimal.specs.Hex.{text_of}
use Rattle.dso_key.specs.Keys.{Key}
use Rattle.dso_key.specs.Kinds.{kind_of, kind_name}
use Rattle.dso_key.specs.Names.{name_of}
use Rattle.simpleperf.specs.Tables.{Symbol, Info, dex_file, elf_file, kernel_module, File}

-- `numbers A B ..`: numbers in decimal, each behind a space.
abbrev pub numbers_text : List ℕ → List ℕ
numbers_text ns = codes "numbers" ++ flat_map (λ n. codes " " ++ decimal n) ns

abbrev pub nr_cpus_text : NrCpus → List ℕ
nr_cpus_text v = numbers_text (v.nr_cpus_available ∷ v.nr_cpus_online ∷ [])

abbrev pub total_mem_text : TotalMem → List ℕ
total_mem_text v = numbers_text (v.kilobytes ∷ [])

abbrev pub sample_time_range_text : SampleTimeRange → List ℕ
sample_time_range_text v = numbers_text (v.first_sample_time ∷ v.last_sample_time ∷ [])

abbrev pub clock_frequency_text : ClockFrequency → List ℕ
clock_frequency_text v = numbers_text (v.ns_per_tick ∷ [])

abbrev pub compression_info_text : CompressionInfo → List ℕ
compression_info_text v = numbers_text (v.version ∷ v.type_ ∷ v.level ∷ v.ratio ∷ v.mmap_len ∷ [])

-- Without its version.
abbrev pub clock_data_text : ClockData → List ℕ
clock_data_text v = numbers_text (v.clockid ∷ v.wall_clock_ns ∷ v.clockid_time_ns ∷ [])

-- `present`
abbrev pub present_text : List ℕ
present_text = codes "present"

-- `text xHEX`: bytes in hexadecimal.
abbrev pub text_text : List ℕ → List ℕ
text_text bytes = codes "text x" ++ text_of bytes

-- `texts N xHEX ..`: how many there are, and each behind a space.
abbrev pub texts_text : List (List ℕ) → List ℕ
texts_text ts = codes "texts " ++ decimal (length ts) ++ flat_map (λ t. codes " x" ++ text_of t) ts

-- A key's kind, what is between, and its name in hexadecimal behind an x.
abbrev pub named_text : List ℕ → Key → List ℕ
named_text between k = kind_name (kind_of k) ++ between ++ codes "x" ++ text_of (name_of k)

-- `key KIND xNAME`
abbrev pub key_text : Key → List ℕ
key_text k = codes "key " ++ named_text (codes " ") k

-- Texts with a mark between each two.
abbrev pub joined : List ℕ → List (List ℕ) → List ℕ
joined mark [] = []
joined mark (t ∷ ts) = t ++ flat_map (λ u. mark ++ u) ts

-- TAIL: `-`, `dex=A,B,..`, `elf=A` or `module=A`.
abbrev pub info_text : Option Info → List ℕ
info_text None = codes "-"
info_text (Some (dex_file offsets)) = codes "dex=" ++ joined (codes ",") (map decimal offsets)
info_text (Some (elf_file at)) = codes "elf=" ++ decimal at
info_text (Some (kernel_module at)) = codes "module=" ++ decimal at

-- `ADDRESS,LENGTH,xNAME`
abbrev pub symbol_text : Symbol → List ℕ
symbol_text s = decimal s.address ++ codes "," ++ decimal s.long ++ codes ",x" ++ text_of s.name

-- SYMBOLS: `-` for none, else with `;` between.
abbrev pub symbols_text : List Symbol → List ℕ
symbols_text [] = codes "-"
symbols_text (s ∷ ss) = joined (codes ";") (map symbol_text (s ∷ ss))

-- `xPATH:TYPE:LOWEST:TAIL:SYMBOLS`, behind a space.
abbrev pub file_text : File → List ℕ
file_text f =
    codes " x" ++ text_of f.path ++ codes ":" ++ decimal f.type ++ codes ":" ++ decimal f.lowest ++ codes ":" ++ info_text f.info ++ codes ":" ++ symbols_text f.symbols

-- `records N xPATH:TYPE:LOWEST:TAIL:SYMBOLS ..`
abbrev pub files_text : List File → List ℕ
files_text fs = codes "records " ++ decimal (length fs) ++ flat_map file_text fs
