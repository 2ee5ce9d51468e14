-- What can happen to a shelf: it is opened, and then called in any order.
use Rattle.std.specs.Prelude.{◌≡◌, ℕ, ◌≤◌, List, [], ◌∷◌, length, Result}
use Rattle.wire.specs.declared.order.ByteOrder.{ByteOrder}
use Rattle.wire.specs.declared.refusal.Fault.{Fault}
use Rattle.image.specs.Held.{Features}
use Rattle.facts.specs.Head.{head_of, length_of, ahead}
use Rattle.shelf.specs.Contents.{Contents}
use Rattle.shelf.specs.Calls.{opening, head_for, file_answer, file_after, release_answer, release_after, count_answer, head_shown}

-- What is handed in to be filed: so many rows and work bytes, and a store, of whatever kind, by its byte order and its sections.
pub record Filing : Type 0 where
  pub rows : ℕ
  pub work : ℕ
  pub order : ByteOrder
  pub features : Features

abbrev pub filing : ℕ → ℕ → ByteOrder → Features → Filing
filing rows work order features = record { rows = rows; work = work; order = order; features = features }

-- A call with its answer; of show, the buffer before and after it too.
pub data Event : Type 0 where
  filed : Filing → Result ℕ Fault → Event
  released : ℕ → Result (Unit {0}) Fault → Event
  counted : ℕ → Result ℕ Fault → Event
  shown : ℕ → List ℕ → Result ℕ Fault → List ℕ → Event

-- The latest call first.
abbrev pub History : Type 0
History = List Event

abbrev pub head_in : Contents → Filing → Result (List ℕ) Fault
head_in c x = head_for c x.work (head_of x.rows x.order x.features.at)

-- A call is answered and done as it is defined.
abbrev pub Step : Contents → Event → Contents → Type 0
Step c (filed x a) d = (a ≡ file_answer c (head_in c x)) × (d ≡ file_after c (head_in c x))
Step c (released g a) d = (a ≡ release_answer c g) × (d ≡ release_after c g)
Step c (counted g a) d = (a ≡ count_answer c g) × (d ≡ c)
Step c (shown g out a by) d =
    (a ≡ length_of (head_shown c g (length out))) × (by ≡ ahead (head_shown c g (length out)) out) × (d ≡ c)

-- A shelf holds what the calls of a history, after an opening, have led to. The opening may have been refused; its first
-- number is a u32.
pub data Ran : History → Contents → Type 0 where
  opened : (strip first : ℕ) (bytes : List ℕ) (c : Contents) → first ≤ 4294967295 → c ≡ opening strip first bytes → Ran [] c
  went : (h : History) (c : Contents) (e : Event) (d : Contents) → Ran h c → Step c e d → Ran (e ∷ h) d
