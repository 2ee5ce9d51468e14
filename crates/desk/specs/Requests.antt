-- What a line of a request says: the lines of docs/SHELF.md.
use Rattle.std.specs.Prelude.{◌≡◌, ◌≢◌, ℕ, ◌<◌, ◌≤◌, ◌^◌, List, [], Option, Result, MatchOption, MatchResult, codes, ◌==◌}
use Rattle.std.specs.List.{before_first, after_first}
use Rattle.std.specs.Str.{IsUtf8}
use Rattle.std.specs.Str.Parse.{IsNumeral, digits_value}
use Rattle.desk.specs.declared.request.Opening.{Opening}
use Rattle.desk.specs.declared.request.Lent.{Lent}
use Rattle.desk.specs.declared.request.Filing.{Filing}
use Rattle.desk.specs.declared.request.Request.{Request}
use Rattle.desk.specs.declared.request.Request.TheVariants.{Open, File, Release, Count, Show}

-- What is read is what the text says; and it is turned down exactly where it says nothing of the kind.
abbrev pub Reads : {X E : Type 0} → (X → Type 0) → Result X E → Type 0
Reads {X} P r = MatchResult r P (λ _. (x : X) → ¬ (P x))

-- A number is made of decimal digits alone, and has 64 bits.
abbrev pub IsNumber : List ℕ → ℕ → Type 0
IsNumber word n = IsNumeral 10 word × (digits_value 10 word ≡ n) × (n < 2 ^ 64)

-- The first of some words, and the others behind its space.
abbrev pub first_of : List ℕ → List ℕ
first_of words = before_first (λ c. c == 32) words

abbrev pub others_of : List ℕ → List ℕ
others_of words = after_first (λ c. c == 32) words

-- A number may stand behind another or be left out.
abbrev pub IsOptional : List ℕ → Option ℕ → Type 0
IsOptional words o = MatchOption o (first_of words ≡ words) (IsNumber (others_of words))

abbrev pub IsOpening : List ℕ → Opening → Type 0
IsOpening words o =
    IsNumber (first_of words) o.strip
    × IsNumber (first_of (others_of words)) o.first
    × IsNumber (others_of (others_of words)) o.bytes

-- No filing has more than 65,536 rows.
abbrev pub IsLent : List ℕ → Lent → Type 0
IsLent words l = IsNumber (first_of words) l.rows × IsNumber (others_of words) l.work × (l.rows ≤ 65536)

abbrev pub IsFiling : List ℕ → Filing → Type 0
IsFiling words f =
    (f.source.now ≡ first_of words) × (f.source.now ≢ []) × MatchOption f.lent (first_of words ≡ words) (IsLent (others_of words))

abbrev pub IsRequest : List ℕ → Request → Type 0
IsRequest line (Open o) = (first_of line ≡ codes "open") × IsOpening (others_of line) o
IsRequest line (File f) = (first_of line ≡ codes "file") × IsFiling (others_of line) f
IsRequest line (Release n) = (first_of line ≡ codes "release") × IsNumber (others_of line) n
IsRequest line (Count n) = (first_of line ≡ codes "count") × IsNumber (others_of line) n
IsRequest line (Show n room) =
    (first_of line ≡ codes "show") × IsNumber (first_of (others_of line)) n × IsOptional (others_of line) room

-- A line is the bytes of a text.
abbrev pub IsRequestLine : List ℕ → Request → Type 0
IsRequestLine line r = IsUtf8 line × IsRequest line r
