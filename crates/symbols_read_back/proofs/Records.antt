-- A symbol, the tail of a record and the record are read again.
use Rattle.std.proofs.Common.{◌≡◌, ℕ, ◌<◌, ◌≤◌, cond, eqb, List, ◌++◌, length, Some, None, Option, refl, ap, arith}
use Rattle.std.proofs.lemmas.List.{length-append}
use Rattle.wire.proofs.Digits.{length-bytes_of}
use Rattle.simpleperf.specs.Tables.{Symbol, symbol_in, Info, dex_file, elf_file, kernel_module, info_in, File, file_in}
use Rattle.facts.specs.Written.{u32, u64, ended, symbol_bytes, info_bytes, file_bytes}
use Rattle.symbols_read_back.proofs.Law.{Law, either_law, none_law, made_law, then_law}
use Rattle.symbols_read_back.proofs.Parts.{Fits, u32_law, u64_law, type_law, Text, text_law, offset_law}
use Rattle.symbols_read_back.proofs.Counted.{Counted, counted_law}

-- ---- a symbol

-- What is fine behind an address and a length.
abbrev Named : ℕ → ℕ → Symbol → Type 0
Named address long s = (name : List ℕ) × Text name × (s ≡ record { address = address; long = long; name = name })

-- What is fine behind an address.
abbrev Long : ℕ → Symbol → Type 0
Long address s = Fits 4 s.long × Named address s.long s

abbrev pub FineSymbol : Symbol → Type 0
FineSymbol s = Fits 8 s.address × Long s.address s

pub symbol_law : Law symbol_in symbol_bytes FineSymbol 0
symbol_law =
    then_law u64_law (λ s. s.address)
    (λ address.
    then_law u32_law (λ s. s.long)
    (λ long. made_law text_law (omega arith) (λ name. record { address = address; long = long; name = name }) (λ s. ended s.name) (λ name. refl))
    (λ long s (name, f, e). ap (λ (x : Symbol). x.long) e))
    (λ address s (l, (name, f, e)). ap (λ (x : Symbol). x.address) e)

symbol_some : (s : Symbol) → 0 < length (symbol_bytes s)
symbol_some s = omega (arith, length-append (u64 s.address) (u32 s.long ++ ended s.name), length-bytes_of 8 s.address)

offset_some : (n : ℕ) → 0 < length (u64 n)
offset_some n = omega (arith, length-bytes_of 8 n)

-- ---- the tail

-- A file's tail is the one that its type asks for.
abbrev pub FineInfo : ℕ → Option Info → Type 0
FineInfo type info =
    cond (eqb type 3) ((offsets : List ℕ) × Counted u64_law offsets × (info ≡ Some (dex_file offsets)))
    (cond (eqb type 2) ((n : ℕ) × Fits 8 n × (info ≡ Some (elf_file n)))
    (cond (eqb type 1) ((n : ℕ) × Fits 8 n × (info ≡ Some (kernel_module n))) (info ≡ None)))

-- The offset that a recording left out is written, so there may be eight bytes more.
pub info_law : (type : ℕ) → Law (λ o n s. info_in o n type s) info_bytes (FineInfo type) 8
info_law type =
    either_law (eqb type 3) (made_law (counted_law u64_law offset_some) (omega arith) (λ offsets. Some (dex_file offsets)) info_bytes (λ offsets. refl))
    (either_law (eqb type 2) (made_law offset_law (omega arith) (λ n. Some (elf_file n)) info_bytes (λ n. refl))
    (either_law (eqb type 1) (made_law offset_law (omega arith) (λ n. Some (kernel_module n)) info_bytes (λ n. refl))
    (none_law None info_bytes 8 refl)))

-- ---- a record

abbrev Told : List ℕ → ℕ → ℕ → List Symbol → File → Type 0
Told path type lowest symbols f =
    (info : Option Info) × FineInfo type info × (f ≡ record { path = path; type = type; lowest = lowest; symbols = symbols; info = info })

abbrev Listed : List ℕ → ℕ → ℕ → File → Type 0
Listed path type lowest f = Counted symbol_law f.symbols × Told path type lowest f.symbols f

abbrev Placed : List ℕ → ℕ → File → Type 0
Placed path type f = Fits 8 f.lowest × Listed path type f.lowest f

abbrev Typed : List ℕ → File → Type 0
Typed path f = (f.type ≤ 5) × Placed path f.type f

abbrev pub FineFile : File → Type 0
FineFile f = Text f.path × Typed f.path f

pub file_law : Law file_in file_bytes FineFile 8
file_law =
    then_law text_law (λ f. f.path)
    (λ path.
    then_law type_law (λ f. f.type)
    (λ type.
    then_law u64_law (λ f. f.lowest)
    (λ lowest.
    then_law (counted_law symbol_law symbol_some) (λ f. f.symbols)
    (λ symbols.
    made_law (info_law type) (omega arith) (λ info. record { path = path; type = type; lowest = lowest; symbols = symbols; info = info }) (λ f. info_bytes f.info) (λ info. refl))
    (λ symbols f (info, i, e). ap (λ (x : File). x.symbols) e))
    (λ lowest f (s, (info, i, e)). ap (λ (x : File). x.lowest) e))
    (λ type f (l, (s, (info, i, e))). ap (λ (x : File). x.type) e))
    (λ path f (t, (l, (s, (info, i, e)))). ap (λ (x : File). x.path) e)
