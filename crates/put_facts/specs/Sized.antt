-- A record with its length before it, as the code counts the length.
use Rattle.std.specs.Prelude.{ℕ, List, ◌++◌, length}
use Rattle.put.specs.Overlay.{place}
use Rattle.simpleperf.specs.Tables.{File}
use Rattle.facts.specs.Written.{u32, file_bytes}

-- The length is that of a writer with no buffer, which counts in 64 bits. No record of a section is so long.
abbrev pub counted_file : File → List ℕ
counted_file f = u32 (place (length (file_bytes f))) ++ file_bytes f
