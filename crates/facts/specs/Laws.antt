-- What heads are good for.
use Rattle.std.specs.Prelude.{◌≡◌, ℕ, ◌*◌, ◌≤◌, List, length, take, Ok, Err, Result}
use Rattle.wire.specs.declared.order.ByteOrder.{ByteOrder}
use Rattle.wire.specs.declared.order.ByteOrder.TheVariants.{Little}
use Rattle.wire.specs.declared.refusal.Fault.{Fault}
use Rattle.wire.specs.declared.refusal.Refusal.{Refusal}
use Rattle.image.specs.Head.{head_front, head_image}
use Rattle.image.specs.Held.{Features}
use Rattle.image.specs.Meaning.{Meaning, means}
use Rattle.image.specs.Run.{run_from, sections_of}
use Rattle.facts.specs.declared.carried.Carried.{Carried}
use Rattle.facts.specs.Facts.{number, read, write}
use Rattle.facts.specs.Head.{Sections, answer, head_of, fitted}
use Rattle.facts.specs.Images.{head_in, image_within}

-- A way to read a section and a way to write what was read belong together: what was read is read again from the bytes that
-- it is written as, and these are at most twice those that it was read from.
pub record ReadsBack {V : Type 0} (parse : ByteOrder → List ℕ → Result V Fault) (print : V → List ℕ) : Type 0 where
  pub again : (o : ByteOrder) (s : List ℕ) (v : V) → length s ≤ 16777216 → parse o s ≡ Ok v → parse Little (print v) ≡ Ok v
  pub short : (o : ByteOrder) (s : List ℕ) (v : V) → length s ≤ 16777216 → parse o s ≡ Ok v → length (print v) ≤ 2 * length s

-- So does every carried feature, with as many rows there as here.
abbrev pub FactsReadBack : Type 0
FactsReadBack = (n : ℕ) (f : Carried) → ReadsBack (read n f) write

-- The sections of a head.
abbrev pub head_sections : List ℕ → Sections
head_sections h = sections_of (run_from head_front 5 h)

-- `h` is the head of a store of this byte order and these sections, made with n rows.
pub record IsHead (n : ℕ) (o : ByteOrder) (m : Features) (h : List ℕ) : Type 0 where
  pub is : head_of n o m.at ≡ Ok h
  pub short : length h ≤ 16777216

-- The fifteen questions answer alike over two stores, each with rows of its own.
abbrev pub Alike : ℕ → ByteOrder → Sections → ℕ → ByteOrder → Sections → Type 0
Alike n o at k p by = (f : Carried) → answer n o at f ≡ answer k p by f

-- The head of a head: the head call, given its bytes as an image, with as many rows and with room enough, gives those bytes.
unfoldable pub HeadAgain : ℕ → List ℕ → Type 0
HeadAgain n h = (most room : ℕ) → length h ≤ most → length h ≤ room → fitted room (head_in n (image_within most h)) ≡ Ok h

-- A head speaks for its store.
pub record Speaks (n : ℕ) (o : ByteOrder) (m : Features) (h : List ℕ) : Type 0 where
  -- it opens as a head image
  pub opens : head_image h ≡ means Little (head_sections h)
  -- which answers each of the fifteen as the store did, with as many rows
  pub answers : Alike n Little (head_sections h) n o m.at
  -- and whose head it is itself
  pub itself : head_of n Little (head_sections h) ≡ Ok h
  -- also where the head call is given it as an image
  pub again : HeadAgain n h
  -- it is equal to the head of another store exactly when all fifteen answer alike
  pub equal : (k : ℕ) (p : ByteOrder) (t : Features) (g : List ℕ) → IsHead k p t g → Alike n o m.at k p t.at → h ≡ g
  pub alike : (k : ℕ) (p : ByteOrder) (t : Features) (g : List ℕ) → IsHead k p t g → h ≡ g → Alike n o m.at k p t.at
  -- and feature by feature: the entries are the same bytes, or both missing, exactly when that question answers alike
  pub entry_equal : (k : ℕ) (p : ByteOrder) (t : Features) (g : List ℕ) → IsHead k p t g → (f : Carried) → answer n o m.at f ≡ answer k p t.at f → head_sections h (number f) ≡ head_sections g (number f)
  pub entry_alike : (k : ℕ) (p : ByteOrder) (t : Features) (g : List ℕ) → IsHead k p t g → (f : Carried) → head_sections h (number f) ≡ head_sections g (number f) → answer n o m.at f ≡ answer k p t.at f

-- Every head does.
abbrev pub HeadsSpeak : Type 0
HeadsSpeak = (n : ℕ) (o : ByteOrder) (m : Features) (h : List ℕ) → IsHead n o m h → Speaks n o m h

-- Of a call that wrote a head to the front of a buffer.
abbrev pub Spoken : ℕ → ByteOrder → Features → Result ℕ Refusal → List ℕ → Type 0
Spoken n o m (Ok len) out = Speaks n o m (take len out)
Spoken n o m (Err e) out = Unit {0}

-- Of one that was given an image: the image means a byte order and sections, and the head speaks for these.
abbrev pub SpokenImage : ℕ → Meaning → Result ℕ Refusal → List ℕ → Type 0
SpokenImage n image (Ok len) out = (o : ByteOrder) × (m : Features) × (image ≡ means o m.at) × Speaks n o m (take len out)
SpokenImage n image (Err e) out = Unit {0}
