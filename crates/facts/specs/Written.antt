-- How a head has each kind of fact: the numbers little-endian, and no more bytes than it takes.
use Rattle.std.specs.Prelude.{ℕ, ◌+◌, ◌-◌, List, [], ◌∷◌, ◌++◌, length, replicate, Some, None, Option}
use Rattle.std.specs.List.{flat_map}
use Rattle.std.specs.Option.{unwrap_or}
use Rattle.wire.specs.Numbers.{bytes_of}
use Rattle.wire.specs.declared.order.ByteOrder.TheVariants.{Little}
use Rattle.build_ids.specs.Table.{Entry}
use Rattle.dso_key.specs.Keys.{Key}
use Rattle.dso_key.specs.Least.{least_of}
use Rattle.simpleperf.specs.Tables.{Symbol, Info, dex_file, elf_file, kernel_module, File}

abbrev pub u16 : ℕ → List ℕ
u16 n = bytes_of Little 2 n

abbrev pub u32 : ℕ → List ℕ
u32 n = bytes_of Little 4 n

abbrev pub u64 : ℕ → List ℕ
u64 n = bytes_of Little 8 n

-- A header text: its length and the text, no NUL, no padding.
abbrev pub text_bytes : List ℕ → List ℕ
text_bytes t = u32 (length t) ++ t

-- A count and as many items.
abbrev pub counted_bytes : {V : Type 0} → (V → List ℕ) → List V → List ℕ
counted_bytes bytes vs = u32 (length vs) ++ flat_map bytes vs

-- A PMU's number with its name.
abbrev pub name_bytes : ℕ × List ℕ → List ℕ
name_bytes e = u32 e.0 ++ text_bytes e.1

-- A text and the NUL that ends it.
abbrev pub ended : List ℕ → List ℕ
ended t = t ++ 0 ∷ []

-- A key with its value.
abbrev pub pair_bytes : List ℕ × List ℕ → List ℕ
pair_bytes e = ended e.0 ++ ended e.1

-- The least mode that gives the key for the path.
abbrev pub mode_for : Key → List ℕ → ℕ
mode_for key path = unwrap_or (least_of path (Some key)) 0

-- An id in its 24 bytes: zeros up to the 20th, the id's length, three zeros.
abbrev pub id_bytes : List ℕ → List ℕ
id_bytes id = id ++ (replicate (20 - length id) 0 ++ (bytes_of Little 1 (length id) ++ replicate 3 0))

-- A build id record: type 67, misc with the bit 8000 and the mode, the size, the pid 0, the id, and the path with no NUL.
abbrev pub build_bytes : Entry → List ℕ
build_bytes (key, (path, id)) =
    u32 67 ++ (u16 (0x8000 + mode_for key path) ++ (u16 (36 + length path) ++ (u32 0 ++ (id_bytes id ++ path))))

abbrev pub symbol_bytes : Symbol → List ℕ
symbol_bytes s = u64 s.address ++ (u32 s.long ++ ended s.name)

-- The tail by the file's type; the offset is written also where the recording left it out.
abbrev pub info_bytes : Option Info → List ℕ
info_bytes None = []
info_bytes (Some (dex_file offsets)) = counted_bytes u64 offsets
info_bytes (Some (elf_file n)) = u64 n
info_bytes (Some (kernel_module n)) = u64 n

abbrev pub file_bytes : File → List ℕ
file_bytes f =
    ended f.path ++ (u32 f.type ++ (u64 f.lowest ++ (counted_bytes symbol_bytes f.symbols ++ info_bytes f.info)))

-- A record with its length before it.
abbrev pub sized_bytes : File → List ℕ
sized_bytes f = u32 (length (file_bytes f)) ++ file_bytes f
