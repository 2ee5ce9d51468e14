-- Facts of a fixed length: numbers, one after the other.
use Rattle.std.specs.Prelude.{ℕ, Bool, true, false, cond, List, take, drop, Some, None, Ok, Err, Option, Result, ◌==◌}
use Rattle.wire.specs.Faults.{fault_of, section_fault}
use Rattle.wire.specs.Numbers.{number}
use Rattle.wire.specs.declared.order.ByteOrder.{ByteOrder}
use Rattle.wire.specs.declared.refusal.Fault.{Fault}
use Rattle.wire.specs.declared.refusal.Refusal.{Refusal}
use Rattle.fixed_facts.specs.declared.feature_sections.ClockData.{ClockData}
use Rattle.fixed_facts.specs.declared.feature_sections.ClockFrequency.{ClockFrequency}
use Rattle.fixed_facts.specs.declared.feature_sections.CompressionInfo.{CompressionInfo}
use Rattle.fixed_facts.specs.declared.feature_sections.NrCpus.{NrCpus}
use Rattle.fixed_facts.specs.declared.feature_sections.SampleTimeRange.{SampleTimeRange}
use Rattle.fixed_facts.specs.declared.feature_sections.TotalMem.{TotalMem}

abbrev pub number_or : {E : Type 0} → E → Option ℕ → Result ℕ E
number_or fault None = Err fault
number_or fault (Some n) = Ok n

-- The number of `width` bytes at an offset of the feature's section; cut short, it is refused where it would stand.
abbrev pub field : ℕ → ByteOrder → ℕ → List ℕ → ℕ → Result ℕ Fault
field feature o width s at = number_or (section_fault 11 feature at) (number o width (drop at s))

-- One after the other: the first fault is the answer.
abbrev pub and_then : {V W : Type 0} → Result V Fault → (V → Result W Fault) → Result W Fault
and_then (Ok v) more = more v
and_then (Err f) more = Err f

-- Each fact is read in the section of a feature, which its faults name, and then in that of its own feature.

-- Two u32.
abbrev pub nr_cpus_in : ℕ → ByteOrder → List ℕ → Result NrCpus Fault
nr_cpus_in feature o s =
    and_then (field feature o 4 s 0) (λ available.
    and_then (field feature o 4 s 4) (λ online.
    Ok (record { nr_cpus_available = available; nr_cpus_online = online })))

abbrev pub nr_cpus : ByteOrder → List ℕ → Result NrCpus Fault
nr_cpus = nr_cpus_in 7

-- Two u64.
abbrev pub sample_time_range_in : ℕ → ByteOrder → List ℕ → Result SampleTimeRange Fault
sample_time_range_in feature o s =
    and_then (field feature o 8 s 0) (λ first.
    and_then (field feature o 8 s 8) (λ last.
    Ok (record { first_sample_time = first; last_sample_time = last })))

abbrev pub sample_time_range : ByteOrder → List ℕ → Result SampleTimeRange Fault
sample_time_range = sample_time_range_in 21

-- Five u32.
abbrev pub compression_info_in : ℕ → ByteOrder → List ℕ → Result CompressionInfo Fault
compression_info_in feature o s =
    and_then (field feature o 4 s 0) (λ version.
    and_then (field feature o 4 s 4) (λ kind.
    and_then (field feature o 4 s 8) (λ level.
    and_then (field feature o 4 s 12) (λ ratio.
    and_then (field feature o 4 s 16) (λ mmap.
    Ok (record { version = version; type_ = kind; level = level; ratio = ratio; mmap_len = mmap }))))))

abbrev pub compression_info : ByteOrder → List ℕ → Result CompressionInfo Fault
compression_info = compression_info_in 27

-- A u32 version, which has to be 1 before anything after it is read; a u32 and two u64. Another version is refused as that of
-- the clock data, whatever the feature.
abbrev pub clock_data_in : ℕ → ByteOrder → List ℕ → Result ClockData Fault
clock_data_in feature o s =
    and_then (field feature o 4 s 0) (λ version.
    cond (version == 1)
    (and_then (field feature o 4 s 4) (λ clockid.
    and_then (field feature o 8 s 8) (λ wall.
    and_then (field feature o 8 s 16) (λ time.
    Ok (record { clockid = clockid; wall_clock_ns = wall; clockid_time_ns = time })))))
    (Err (section_fault 12 29 0)))

abbrev pub clock_data : ByteOrder → List ℕ → Result ClockData Fault
clock_data = clock_data_in 29

-- One u64, whose section is too small if it has fewer than eight bytes.
abbrev pub whole64 : ℕ → ByteOrder → List ℕ → Result ℕ Fault
whole64 feature o s = number_or (section_fault 6 feature 0) (number o 8 s)

abbrev pub total_mem_in : ℕ → ByteOrder → List ℕ → Result TotalMem Fault
total_mem_in feature o s = and_then (whole64 feature o s) (λ n. Ok (record { kilobytes = n }))

abbrev pub total_mem : ByteOrder → List ℕ → Result TotalMem Fault
total_mem = total_mem_in 10

abbrev pub clock_frequency_in : ℕ → ByteOrder → List ℕ → Result ClockFrequency Fault
clock_frequency_in feature o s = and_then (whole64 feature o s) (λ n. Ok (record { ns_per_tick = n }))

abbrev pub clock_frequency : ByteOrder → List ℕ → Result ClockFrequency Fault
clock_frequency = clock_frequency_in 23

-- The section that tells a recording of `perf stat` says no more than that it is there, whatever its bytes.
abbrev pub stats : ByteOrder → List ℕ → Result (Unit {0}) Fault
stats o s = Ok tt

-- Of a section only as many bytes are read as the fact has; further bytes are ignored.
abbrev pub of_first : {V : Type 0} → ℕ → (ByteOrder → List ℕ → Result V Fault) → ByteOrder → List ℕ → Result V Fault
of_first size read o s = read o (take size s)

-- What the code answers.
abbrev pub parsed : {V : Type 0} → Result V Refusal → Result V Fault
parsed (Ok v) = Ok v
parsed (Err e) = Err (fault_of e)

-- Whether something is there, as a question answers it.
abbrev pub is_there : Bool → Result (Option (Unit {0})) Fault
is_there true = Ok (Some tt)
is_there false = Ok None

-- The same of a number of whatever type: `value` is what it stands for.
abbrev pub parsed_as : {N V : Type 0} → (N → V) → Result N Refusal → Result V Fault
parsed_as value (Ok n) = Ok (value n)
parsed_as value (Err e) = Err (fault_of e)
