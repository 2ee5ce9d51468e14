-- The answer to a request: by what the shelf holds, the request, the recording that it is about, and how many bytes there are
-- for a head to be shown.
use Rattle.std.specs.Prelude.{◌≡◌, ℕ, Bool, true, false, cond, List, [], ◌∷◌, length, vec_items, Option, Some, None, Ok, Err, Result, ◌==◌}
use Rattle.wire.specs.Faults.{fault_of}
use Rattle.wire.specs.declared.refusal.Fault.{Fault}
use Rattle.wire.specs.declared.refusal.Refusal.{Refusal}
use Rattle.hexadecimal.specs.Hex.{bytes_of}
use Rattle.shelf.specs.Contents.{Contents}
use Rattle.desk.specs.Calls.{filed_answer, filed_after, released_answer, released_after, counted_answer, shown_answer}
use Rattle.desk.specs.declared.reply.Reply.{Reply}
use Rattle.desk.specs.declared.reply.Reply.TheVariants as code
use Rattle.desk.specs.declared.recording.Recording.{Recording}
use Rattle.desk.specs.declared.recording.Recording.TheVariants.{Image, Unread, Missing}
use Rattle.desk.specs.declared.request.BadLine.{BadLine}
use Rattle.desk.specs.declared.request.Opening.{Opening}
use Rattle.desk.specs.declared.request.Request.{Request}
use Rattle.desk.specs.declared.request.Request.TheVariants.{Open, File, Release, Count, Show}

pub data LineAnswer : Type 0 where
  opened : ℕ → LineAnswer
  filed : ℕ → LineAnswer
  released : ℕ → LineAnswer
  counted : ℕ → LineAnswer
  shown : List ℕ → LineAnswer
  refused : Fault → LineAnswer
  unread : List ℕ → LineAnswer
  no_request : LineAnswer

-- What a reply says.
abbrev pub answer_of : Reply → LineAnswer
answer_of (code.Opened strips) = opened strips
answer_of (code.Filed group) = filed group
answer_of (code.Released group) = released group
answer_of (code.Counted filings) = counted filings
answer_of (code.Shown head) = shown head.now
answer_of (code.Refused refusal) = refused (fault_of refusal)
answer_of (code.Unread path) = unread path.now
answer_of (code.NoRequest bad) = no_request

-- What a call answers, or its refusal.
abbrev pub or_refused : {X : Type 0} → (X → LineAnswer) → Result X Fault → LineAnswer
or_refused says (Ok x) = says x
or_refused says (Err e) = refused e

-- A desk is not opened again. A filing is of the recording's bytes, where it has some.
abbrev pub answer_to : Contents → Request → Recording → ℕ → LineAnswer
answer_to c (Open o) recording size = no_request
answer_to c (File f) (Image v) size = or_refused filed (filed_answer c f.lent (vec_items v))
answer_to c (File f) Unread size = unread f.source.now
answer_to c (File f) Missing size = no_request
answer_to c (Release g) recording size = or_refused (λ _. released g) (released_answer c g)
answer_to c (Count g) recording size = or_refused counted (counted_answer c g)
answer_to c (Show g room) recording size = or_refused shown (shown_answer c g room size)

-- What the shelf holds after it.
abbrev pub shelf_after : Contents → Request → Recording → Contents
shelf_after c (Open o) recording = c
shelf_after c (File f) (Image v) = filed_after c f.lent (vec_items v)
shelf_after c (File f) Unread = c
shelf_after c (File f) Missing = c
shelf_after c (Release g) recording = released_after c g
shelf_after c (Count g) recording = c
shelf_after c (Show g room) recording = c

-- A source that begins with `x` writes an image's bytes in hexadecimal; any other is a path.
abbrev pub digits_of : List ℕ → Option (List ℕ)
digits_of [] = None
digits_of (c ∷ source) = cond (c == 120) (Some source) None

-- The recording that digits write. What a file holds, and whether it can be read, no clause can say.
abbrev pub IsWritten : Option (List ℕ) → Recording → Type 0
IsWritten None (Image v) = Unit {0}
IsWritten None Unread = Unit {0}
IsWritten None Missing = ⊥
IsWritten (Some digits) (Image v) = bytes_of digits ≡ Some (vec_items v)
IsWritten (Some digits) Unread = ⊥
IsWritten (Some digits) Missing = bytes_of digits ≡ None

-- The recording that a request is about; there is none where it is no filing.
abbrev pub IsRecordingOf : Request → Recording → Type 0
IsRecordingOf (Open o) recording = recording ≡ Missing
IsRecordingOf (File f) recording = IsWritten (digits_of f.source.now) recording
IsRecordingOf (Release g) recording = recording ≡ Missing
IsRecordingOf (Count g) recording = recording ≡ Missing
IsRecordingOf (Show g room) recording = recording ≡ Missing

-- A request gets the answer to it, with what the shelf then holds, about the recording that it names. Any other line is
-- none, and does not touch the shelf.
abbrev pub AnswersRequest : Contents → Result Request BadLine → ℕ → LineAnswer → Contents → Type 0
AnswersRequest c (Ok request) size answer then =
    (recording : Recording)
    × IsRecordingOf request recording
    × (answer ≡ answer_to c request recording size)
    × (then ≡ shelf_after c request recording)
AnswersRequest c (Err bad) size answer then = (answer ≡ no_request) × (then ≡ c)

abbrev pub is_to_request : LineAnswer → Bool
is_to_request (opened strips) = true
is_to_request (filed group) = true
is_to_request (released group) = true
is_to_request (counted filings) = true
is_to_request (shown head) = true
is_to_request (refused fault) = true
is_to_request (unread path) = true
is_to_request no_request = false
