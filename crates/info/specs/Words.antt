-- Kinds, byte orders and facts of a fixed length, in words.
use Rattle.std.specs.Prelude.{ℕ, List, ◌++◌, codes}
use Rattle.std.specs.Fmt.{decimal}
use Rattle.wire.specs.Shown.{order_text}
use Rattle.wire.specs.declared.order.ByteOrder.{ByteOrder}
use Rattle.image.specs.declared.kinds.Kind.{Kind}
use Rattle.image.specs.declared.kinds.Kind.TheVariants.{File, Pipe, Head}
use Rattle.fixed_facts.specs.declared.feature_sections.NrCpus.{NrCpus}
use Rattle.fixed_facts.specs.declared.feature_sections.TotalMem.{TotalMem}
use Rattle.fixed_facts.specs.declared.feature_sections.SampleTimeRange.{SampleTimeRange}
use Rattle.fixed_facts.specs.declared.feature_sections.ClockFrequency.{ClockFrequency}
use Rattle.fixed_facts.specs.declared.feature_sections.CompressionInfo.{CompressionInfo}
use Rattle.fixed_facts.specs.declared.feature_sections.ClockData.{ClockData}

abbrev pub kind_words : Kind → List ℕ
kind_words File = codes "file image"
kind_words Pipe = codes "pipe image"
kind_words Head = codes "head image"

abbrev pub order_words : ByteOrder → List ℕ
order_words o = order_text o ++ codes "-endian"

abbrev pub nr_cpus_words : NrCpus → List ℕ
nr_cpus_words n = decimal n.nr_cpus_online ++ codes " online, " ++ decimal n.nr_cpus_available ++ codes " available"

abbrev pub total_mem_words : TotalMem → List ℕ
total_mem_words m = decimal m.kilobytes ++ codes " kB"

abbrev pub sample_time_words : SampleTimeRange → List ℕ
sample_time_words r = decimal r.first_sample_time ++ codes " ns to " ++ decimal r.last_sample_time ++ codes " ns"

abbrev pub clock_frequency_words : ClockFrequency → List ℕ
clock_frequency_words f = decimal f.ns_per_tick ++ codes " ns per tick"

abbrev pub compression_words : CompressionInfo → List ℕ
compression_words i =
    let length = codes ", mmap length " ++ decimal i.mmap_len in
    let ratio = codes ", ratio " ++ (decimal i.ratio ++ length) in
    let level = codes ", level " ++ (decimal i.level ++ ratio) in
    let kind = codes ", type " ++ (decimal i.type_ ++ level) in
    codes "version " ++ (decimal i.version ++ kind)

abbrev pub clock_data_words : ClockData → List ℕ
clock_data_words d =
    codes "clock "
    ++ decimal d.clockid
    ++ codes " at "
    ++ decimal d.clockid_time_ns
    ++ codes " ns, wall clock at "
    ++ decimal d.wall_clock_ns
    ++ codes " ns"
