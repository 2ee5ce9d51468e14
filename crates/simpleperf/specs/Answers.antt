-- What the code's answers stand for.
use Rattle.std.specs.Prelude.{ℕ, List, Some, None, Ok, Err, Option, Result}
use Rattle.wire.specs.Faults.{fault_of}
use Rattle.wire.specs.declared.refusal.Fault.{Fault}
use Rattle.wire.specs.declared.refusal.Refusal.{Refusal}
use Rattle.simpleperf.specs.Lists.{to_come}
use Rattle.simpleperf.specs.Tables.{Symbol, symbol_in, u64_in, Info, dex_file, elf_file, kernel_module, File, sized_file}
use Rattle.simpleperf.specs.Types.{type_number}
use Rattle.simpleperf.specs.declared.list.ItemList.{ItemList}
use Rattle.simpleperf.specs.declared.file.SimpleperfFileRecord.{SimpleperfFileRecord}
use Rattle.simpleperf.specs.declared.info.SimpleperfTypeSpecificInfo.{SimpleperfTypeSpecificInfo}
use Rattle.simpleperf.specs.declared.info.SimpleperfTypeSpecificInfo.TheVariants.{SimpleperfDexFileInfo, ElfFile, KernelModule}
use Rattle.simpleperf.specs.declared.symbol.SimpleperfSymbol.{SimpleperfSymbol}
use Rattle.simpleperf.specs.declared.symbol.Symbols.{Symbols}
use Rattle.simpleperf.specs.declared.dex.Offsets.{Offsets}
use Rattle.simpleperf.specs.declared.tables.Files.{Files}

abbrev pub symbol_of : SimpleperfSymbol → Symbol
symbol_of s = record { address = s.vaddr; long = s.len; name = s.name.now }

-- The symbols that a view has yet to give.
abbrev pub symbols_of : ItemList Symbols → List Symbol
symbols_of v = to_come symbol_in v

-- The offsets that a view has yet to give.
abbrev pub offsets_of : ItemList Offsets → List ℕ
offsets_of v = to_come u64_in v

abbrev pub kind_of : SimpleperfTypeSpecificInfo → Info
kind_of (SimpleperfDexFileInfo i) = dex_file (offsets_of i.dex_file_offset)
kind_of (ElfFile i) = elf_file i.file_offset_of_min_vaddr
kind_of (KernelModule i) = kernel_module i.memory_offset_of_min_vaddr

abbrev pub info_of : Option SimpleperfTypeSpecificInfo → Option Info
info_of None = None
info_of (Some i) = Some (kind_of i)

abbrev pub file_of : SimpleperfFileRecord → File
file_of f = record {
  path = f.path.now;
  type = type_number f.file_type;
  lowest = f.min_vaddr;
  symbols = symbols_of f.symbol;
  info = info_of f.type_specific_msg;
}

-- The files that a view has yet to give.
abbrev pub files_of : ItemList Files → List File
files_of v = to_come sized_file v

abbrev pub tables_of : Result (ItemList Files) Refusal → Result (List File) Fault
tables_of (Ok v) = Ok (files_of v)
tables_of (Err e) = Err (fault_of e)
