-- The carried features whose facts are tables: a table is made in rows that are lent.
use Rattle.std.specs.Prelude.{Some, None, Option}
use Rattle.facts.specs.declared.carried.Carried.{Carried}
use Rattle.facts.specs.declared.carried.Carried.TheVariants.{BuildId, Hostname, OsRelease, Version, Arch, NrCpus, CpuDesc, CpuId, TotalMem, CmdLine, PmuMappings, Stat, ClockId, SimpleperfFile, SimpleperfMetaInfo}
use Rattle.facts.specs.declared.carried.Tabled.{Tabled}
use Rattle.facts.specs.declared.carried.Tabled.TheVariants.{BuildIds, PmuNames, MetaInfo}

-- Which table a feature's fact is, if it is one.
abbrev pub tabled_as : Carried → Option Tabled
tabled_as BuildId = Some BuildIds
tabled_as PmuMappings = Some PmuNames
tabled_as SimpleperfMetaInfo = Some MetaInfo
tabled_as Hostname = None
tabled_as OsRelease = None
tabled_as Version = None
tabled_as Arch = None
tabled_as NrCpus = None
tabled_as CpuDesc = None
tabled_as CpuId = None
tabled_as TotalMem = None
tabled_as CmdLine = None
tabled_as Stat = None
tabled_as ClockId = None
tabled_as SimpleperfFile = None

-- The feature of a table.
abbrev pub feature_of : Tabled → Carried
feature_of BuildIds = BuildId
feature_of PmuNames = PmuMappings
feature_of MetaInfo = SimpleperfMetaInfo
