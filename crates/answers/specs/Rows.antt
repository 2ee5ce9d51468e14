-- The answers that are tables: rows of a table, and the entries that they stand for.
use Rattle.std.specs.Prelude.{ℕ, ◌++◌, List, [], Some, None, Option, codes, length}
use Rattle.std.specs.List.{flat_map}
use Rattle.std.specs.Fmt.{decimal}
use Rattle.hexadecimal.specs.Hex.{text_of}
use Rattle.table.specs.Rows.{key_part, entry_of}
use Rattle.table.specs.declared.row.Row.{Row}
use Rattle.wire.specs.declared.order.ByteOrder.{ByteOrder}
use Rattle.perf_data.specs.Questions.{question}
use Rattle.mappings.specs.Tables.{within}
use Rattle.mappings.specs.PmuMappings.{key_of, pmu_names}
use Rattle.mappings.specs.MetaInfo.{meta_info}
use Rattle.build_ids.specs.Rows.{entry_in}
use Rattle.build_ids.specs.Table.{Entry, build_ids}
use Rattle.answers.specs.Answers.{answer_text}
use Rattle.answers.specs.Texts.{named_text}

-- `NUMBER:xNAME`, behind a space.
abbrev pub pmu_entry_text : ℕ × List ℕ → List ℕ
pmu_entry_text e = codes " " ++ decimal e.0 ++ codes ":x" ++ text_of e.1

-- `xKEY:xVALUE`, behind a space.
abbrev pub meta_entry_text : List ℕ × List ℕ → List ℕ
meta_entry_text e = codes " x" ++ text_of e.0 ++ codes ":x" ++ text_of e.1

-- `KIND:xNAME:xPATH:xID`, behind a space.
abbrev pub build_entry_text : Entry → List ℕ
build_entry_text e = codes " " ++ named_text (codes ":") e.0 ++ codes ":x" ++ text_of e.1.0 ++ codes ":x" ++ text_of e.1.1

-- `rows N ENTRY ..`
abbrev pub rows_text : {X : Type 0} → (X → List ℕ) → List X → List ℕ
rows_text entry xs = codes "rows " ++ decimal (length xs) ++ flat_map entry xs

-- A row of a section, by its entry; nothing where there is no section.
abbrev pub pmu_row_text : Option (List ℕ) → Row → List ℕ
pmu_row_text None row = []
pmu_row_text (Some s) row = pmu_entry_text (entry_of key_of s row)

abbrev pub meta_row_text : Option (List ℕ) → Row → List ℕ
meta_row_text None row = []
meta_row_text (Some s) row = meta_entry_text (entry_of (key_part s) s row)

abbrev pub build_row_text : List ℕ → Row → List ℕ
build_row_text s row = build_entry_text (entry_in s row)

-- The table of a section, where so many rows are lent.
abbrev pub pmu_text : ByteOrder → Option (List ℕ) → ℕ → List ℕ
pmu_text order section n = answer_text (rows_text pmu_entry_text) (question (λ o s. within 16 n (pmu_names o s)) order section)

abbrev pub meta_text : ByteOrder → Option (List ℕ) → ℕ → List ℕ
meta_text order section n = answer_text (rows_text meta_entry_text) (question (λ o s. within 129 n (meta_info o s)) order section)

abbrev pub builds_text : ByteOrder → Option (List ℕ) → ℕ → List ℕ
builds_text order section n = answer_text (rows_text build_entry_text) (question (λ o s. within 2 n (build_ids o s)) order section)
