-- The law of the images that are a run of entries, in the image's own offsets: entries follow one another without a gap,
-- the section of a feature is that of the last entry that carries it, and a refusal names the first place where no entry
-- stands.
use Rattle.std.specs.Prelude.{◌≡◌, ℕ, ◌+◌, ◌-◌, ◌<◌, ◌≤◌, cond, List, [], ◌∷◌, length, take, drop, Some, None, Option}
use Rattle.wire.specs.declared.order.ByteOrder.{ByteOrder}
use Rattle.wire.specs.declared.order.ByteOrder.TheVariants.{Little}
use Rattle.image.specs.Head.{head_front}
use Rattle.image.specs.Mark.{mark_order}
use Rattle.image.specs.Meaning.{Meaning, faulty, means, or_else}
use Rattle.image.specs.Pipe.{pipe_front}
use Rattle.image.specs.declared.run.Front.{Front}
use Rattle.image.specs.Run.{Reader, after, is_feature}

-- The first entry begins at `from`, each other where the one before it ends, and the last ends at `to`.
-- `low` and `next` are the least features that may come before and after them.
abbrev pub Follow : Reader → List ℕ → ℕ → ℕ → List Front → ℕ → ℕ → Type 0
Follow front s low from [] next to = (low ≡ next) × (from ≡ to)
Follow front s low from (e ∷ es) next to =
    (front low (drop from s) ≡ Some e) × Follow front s (after low e.feature) (from + e.size) es next to

-- The section of feature n by entries that begin at `from`: the last that carries it.
abbrev pub last_in : ℕ → List ℕ → ℕ → List Front → Option (List ℕ)
last_in n s from [] = None
last_in n s from (e ∷ es) =
    or_else (last_in n s (from + e.size) es)
    (cond (is_feature n e.feature) (Some (take (e.size - e.skip) (drop (from + e.skip) s))) None)

-- Entries from `from` to the end of the image.
pub record Ended (front : Reader) (low from : ℕ) (s : List ℕ) (sections : ℕ → Option (List ℕ)) : Type 0 where
  pub entries : List Front
  pub next : ℕ
  pub follow : Follow front s low from entries next (length s)
  pub last : (n : ℕ) → n ≤ 255 → sections n ≡ last_in n s from entries

-- Entries from `from` to a place where the image goes on, and no entry stands.
pub record Stopped (front : Reader) (low from : ℕ) (s : List ℕ) (at : ℕ) : Type 0 where
  pub entries : List Front
  pub next : ℕ
  pub follow : Follow front s low from entries next at
  pub within : at < length s
  pub none : front next (drop at s) ≡ None

abbrev pub PipeLaid : List ℕ → Meaning → Type 0
PipeLaid s (means o sections) = (mark_order s ≡ Some o) × Ended (pipe_front o) 0 16 s sections
PipeLaid s (faulty f) = f.number ≡ 5 → (o : ByteOrder) × (mark_order s ≡ Some o) × Stopped (pipe_front o) 0 16 s f.offset

abbrev pub HeadLaid : List ℕ → Meaning → Type 0
HeadLaid s (means o sections) = (o ≡ Little) × Ended head_front 0 5 s sections
HeadLaid s (faulty f) = f.number ≡ 17 → Stopped head_front 0 5 s f.offset
