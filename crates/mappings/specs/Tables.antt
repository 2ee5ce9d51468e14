-- The table that a section is read as, and what becomes of lent rows.
use Rattle.std.specs.Prelude.{◌≡◌, ℕ, cond, List, [], ◌∷◌, map, length, take, Some, None, Ok, Err, Option, Result, nat_le}
use Rattle.std.specs.Option.{unwrap_or}
use Rattle.wire.specs.Faults.{fault_of, state_fault}
use Rattle.wire.specs.declared.refusal.Fault.{Fault}
use Rattle.wire.specs.declared.refusal.Refusal.{Refusal}
use Rattle.table.specs.LastOfEach.{LastOfEach}
use Rattle.table.specs.Order.{Order}
use Rattle.table.specs.Rows.{blanks, entry_of}
use Rattle.table.specs.Table.{tabled}
use Rattle.table.specs.Fills.{fits, laid}
use Rattle.table.specs.declared.row.Row.{Row}

-- One more in front of what is read, unless that is a fault.
abbrev pub before : {X : Type 0} → X → Result (List X) Fault → Result (List X) Fault
before x (Ok xs) = Ok (x ∷ xs)
before x (Err f) = Err f

-- The table of what is read, in the order `o` of the keys: the later of two with one key stands.
abbrev pub table_by : {K X : Type 0} → Order K → (X → K) → Result (List X) Fault → Result (List X) Fault
table_by o key (Ok xs) = Ok (tabled o key xs)
table_by o key (Err f) = Err f

-- The table where n rows are enough for it. A fault of the section comes before too few rows.
abbrev pub within : {X : Type 0} → ℕ → ℕ → Result (List X) Fault → Result (List X) Fault
within feature n (Ok t) = cond (nat_le (length t) n) (Ok t) (Err (state_fault 31 feature))
within feature n (Err f) = Err f

-- How many rows a table takes.
abbrev pub counted : {X : Type 0} → Result (List X) Fault → Result ℕ Fault
counted (Ok t) = Ok (length t)
counted (Err f) = Err f

-- What n rows hold in the end: a table, and past it blank rows; all are blank where there is no table or too few rows.
abbrev pub laid_out : ℕ → Result (List Row) Fault → List Row
laid_out n (Ok t) = laid n t
laid_out n (Err f) = blanks n

-- The same for a question that may be absent.
abbrev pub laid_for : ℕ → Result (Option (List Row)) Fault → List Row
laid_for n (Ok None) = blanks n
laid_for n (Ok (Some t)) = laid n t
laid_for n (Err f) = blanks n

-- The entries that the first n of some rows stand for: their keys, and the values that they point to in a section.
abbrev pub entries_in : {K : Type 0} → (Row → K) → List ℕ → List Row → ℕ → List (K × List ℕ)
entries_in key section rows n = map (entry_of key section) (take n rows)

-- The bytes of a section; none where there is no section.
abbrev pub bytes_in : Option (List ℕ) → List ℕ
bytes_in section = unwrap_or section []

-- Where a section gives entries and its question answers a table, the table has the last of each key.
abbrev pub AnswersLast : {K V : Type 0} → Order K → Result (Option (List (K × V))) Fault → Result (Option (List (K × V))) Fault → Type 0
AnswersLast {K} {V} o given answer = (entries table : List (K × V)) → given ≡ Ok (Some entries) → answer ≡ Ok (Some table) → LastOfEach o (λ e. e.0) entries table

-- Another value of what is read.
abbrev pub with_value : {X Y : Type 0} → (X → Y) → Result X Fault → Result Y Fault
with_value g (Ok x) = Ok (g x)
with_value g (Err f) = Err f

-- What the code answers.
abbrev pub outcome : {X V : Type 0} → (X → V) → Result X Refusal → Result V Fault
outcome value (Ok x) = Ok (value x)
outcome value (Err e) = Err (fault_of e)

-- A reading has come to the end of its section, and its rows hold the table as far as it fits; or it has stopped at the
-- section's fault.
abbrev pub Made : Result (List Row) Fault → Result (Option ℕ) Refusal → List Row → Type 0
Made (Ok t) (Ok used) rows = (used ≡ fits (length rows) t) × (rows ≡ laid (length rows) t)
Made (Ok t) (Err e) rows = ⊥
Made (Err f) (Ok used) rows = ⊥
Made (Err f) (Err e) rows = fault_of e ≡ f
