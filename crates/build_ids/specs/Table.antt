-- What a section of build ids means: a table from keys to the paths and the ids that were last given with them.
use Rattle.std.specs.Prelude.{ℕ, ◌%◌, List, [], ◌∷◌, Some, None, Ok, Option, Result}
use Rattle.std.specs.Option.{option_map}
use Rattle.wire.specs.declared.order.ByteOrder.{ByteOrder}
use Rattle.wire.specs.declared.refusal.Fault.{Fault}
use Rattle.table.specs.Table.{tabled}
use Rattle.dso_key.specs.Detect.{detect}
use Rattle.dso_key.specs.Keys.{Key}
use Rattle.dso_key.specs.Modes.{mode_of}
use Rattle.dso_key.specs.Order.{keys}
use Rattle.build_ids.specs.Events.{Event, records}

-- A path and an id.
abbrev pub Build : Type 0
Build = List ℕ × List ℕ

abbrev pub Entry : Type 0
Entry = Key × Build

abbrev pub key_in : Event → Option Key
key_in e = detect e.path (mode_of (e.misc % 8))

-- The entry of a record, if its path has a key in its mode.
abbrev pub entry_of : Event → Option Entry
entry_of e = option_map (λ k. (k, (e.path, e.id))) (key_in e)

-- One more, if it is there.
abbrev pub keep : {X : Type 0} → Option X → List X → List X
keep None xs = xs
keep (Some x) xs = x ∷ xs

-- Records without a key are left out.
abbrev pub entries_of : List Event → List Entry
entries_of [] = []
entries_of (e ∷ es) = keep (entry_of e) (entries_of es)

abbrev pub table_of : List Entry → List Entry
table_of es = tabled keys (λ e. e.0) es

-- No section of build ids is refused.
abbrev pub build_ids : ByteOrder → List ℕ → Result (List Entry) Fault
build_ids o s = Ok (table_of (entries_of (records o s)))
