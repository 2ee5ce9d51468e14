-- The law of the shelf. It speaks of the calls that were made and of their answers, and of what a shelf shows.
use Rattle.std.specs.Prelude.{◌≡◌, ℕ, ◌+◌, ◌-◌, ◌<◌, ◌≤◌, cond, ◌⊎◌, List, [], ◌∷◌, length, take, Ok, Err, ◌==◌}
use Rattle.wire.specs.Faults.{state_fault}
use Rattle.wire.specs.declared.order.ByteOrder.TheVariants.{Little}
use Rattle.wire.specs.declared.refusal.Fault.{Fault}
use Rattle.facts.specs.Head.{head_of}
use Rattle.facts.specs.Laws.{head_sections, Alike, Speaks}
use Rattle.shelf.specs.Contents.{Contents}
use Rattle.shelf.specs.Calls.{refused, release_answer, count_answer, head_shown}
use Rattle.shelf.specs.Histories.{Filing, Event, History, Ran}
use Rattle.shelf.specs.Histories.Event.{filed, released, counted, shown}

-- 1. What was filed, and what is held

abbrev pub one : ℕ → ℕ → ℕ
one k g = cond (k == g) 1 0

-- How many filings answered the group.
abbrev pub filings : ℕ → History → ℕ
filings g [] = 0
filings g (filed x (Ok k) ∷ h) = one k g + filings g h
filings g (filed x (Err e) ∷ h) = filings g h
filings g (released k a ∷ h) = filings g h
filings g (counted k a ∷ h) = filings g h
filings g (shown k out a by ∷ h) = filings g h

-- How many releases of it were accepted.
abbrev pub releases : ℕ → History → ℕ
releases g [] = 0
releases g (filed x a ∷ h) = releases g h
releases g (released k (Ok u) ∷ h) = one k g + releases g h
releases g (released k (Err e) ∷ h) = releases g h
releases g (counted k a ∷ h) = releases g h
releases g (shown k out a by ∷ h) = releases g h

-- A group is held while its filings outnumber its releases.
abbrev pub HeldIn : ℕ → History → Type 0
HeldIn g h = releases g h < filings g h

abbrev pub UnheldIn : ℕ → History → Type 0
UnheldIn g h = filings g h ≤ releases g h

-- The filing was answered with the group.
abbrev pub FiledIn : Filing → ℕ → History → Type 0
FiledIn x g [] = ⊥
FiledIn x g (filed y (Ok k) ∷ h) = ((x ≡ y) × (g ≡ k)) ⊎ FiledIn x g h
FiledIn x g (filed y (Err e) ∷ h) = FiledIn x g h
FiledIn x g (released k a ∷ h) = FiledIn x g h
FiledIn x g (counted k a ∷ h) = FiledIn x g h
FiledIn x g (shown k out a by ∷ h) = FiledIn x g h

-- 2. Same group, same facts

-- All fifteen questions answer alike over two stores, each with the rows that its filing had.
abbrev pub AlikeFiled : Filing → Filing → Type 0
AlikeFiled x y = Alike x.rows x.order x.features.at y.rows y.order y.features.at

-- Of two accepted filings whose groups are both held, the numbers are equal exactly when the stores answer alike.
abbrev pub SameFacts : History → Type 0
SameFacts h =
    (x y : Filing) (g k : ℕ) → FiledIn x g h → FiledIn y k h → HeldIn g h → HeldIn k h → ((g ≡ k → AlikeFiled x y) × (AlikeFiled x y → g ≡ k))

-- 3. The head speaks for its group

abbrev pub SpeaksFor : List ℕ → Filing → Type 0
SpeaksFor head x = Speaks x.rows x.order x.features head

-- The fifteen questions, put to the head with n rows, answer as the store did in its filing.
abbrev pub AnswersFor : List ℕ → ℕ → Filing → Type 0
AnswersFor head n x = Alike n Little (head_sections head) x.rows x.order x.features.at

-- So it does for every store filed into its group, with as many rows as any of the group's filings had. With as many rows the
-- head call, given the head as an image, writes the head again (`again` of `Speaks`).
abbrev pub SpeaksForAll : List ℕ → ℕ → History → Type 0
SpeaksForAll head g h = (x : Filing) → FiledIn x g h → SpeaksFor head x × ((y : Filing) → FiledIn y g h → AnswersFor head y.rows x)

-- 4. Held by count: what an answer says, by the calls before it

-- A filing answers a group that is held then. It was held before, or is new: never one that is no longer held; and a new
-- number is above all that were answered before.
pub record Files (h : History) (x : Filing) (g : ℕ) : Type 0 where
  pub holds : HeldIn g (filed x (Ok g) ∷ h)
  pub once : 1 ≤ filings g h → HeldIn g h
  pub rises : filings g h ≡ 0 → (k : ℕ) → 1 ≤ filings k h → k < g

-- The group's head is that of the filing: all that was filed into it answers alike.
abbrev pub SameAs : Filing → ℕ → History → Type 0
SameAs x g h = (y : Filing) → FiledIn y g h → AlikeFiled x y

-- The filing's head is new: nothing that was filed into a held group answers alike.
abbrev pub NewIn : Filing → History → Type 0
NewIn x h = (y : Filing) (g : ℕ) → FiledIn y g h → HeldIn g h → AlikeFiled x y → ⊥

-- So many groups are held at least: one for each number below n, no two the same.
pub record ManyHeld (n : ℕ) (h : History) : Type 0 where
  pub group : ℕ → ℕ
  pub held : (i : ℕ) → i < n → HeldIn (group i) h
  pub distinct : (i j : ℕ) → i < n → j < n → group i ≡ group j → i ≡ j

-- Why a shelf of so many strips of one length refuses a filing: the store has no head, and the refusal is the head call's own,
-- with a number up to 31; or its head is longer than a strip, or the work bytes are fewer; or its group has as many filings
-- that were not released as a count can say; or its head is new, and as many groups are held as there are strips, or the
-- highest number was answered already.
pub data WhyRefused (strip strips : ℕ) (h : History) (x : Filing) (e : Fault) : Type 0 where
  no_head : head_of x.rows x.order x.features.at ≡ Err e → e.number ≤ 31 → WhyRefused strip strips h x e
  no_room : e ≡ state_fault 32 256 → (head : List ℕ) → head_of x.rows x.order x.features.at ≡ Ok head → (strip < length head) ⊎ (x.work < strip) → WhyRefused strip strips h x e
  count_full : e ≡ state_fault 35 256 → (g : ℕ) → SameAs x g h → filings g h - releases g h ≡ 4294967295 → WhyRefused strip strips h x e
  no_free_strip : e ≡ state_fault 33 256 → NewIn x h → ManyHeld strips h → WhyRefused strip strips h x e
  numbers_used_up : e ≡ state_fault 36 256 → NewIn x h → 1 ≤ filings 4294967295 h → WhyRefused strip strips h x e

abbrev pub Says : ℕ → ℕ → History → Event → Type 0
Says strip strips h (filed x (Ok g)) = Files h x g
Says strip strips h (filed x (Err e)) = WhyRefused strip strips h x e
Says strip strips h (released g (Ok u)) = HeldIn g h
Says strip strips h (released g (Err e)) = (e ≡ state_fault 34 256) × UnheldIn g h
Says strip strips h (counted g (Ok n)) = HeldIn g h × (n ≡ filings g h - releases g h)
Says strip strips h (counted g (Err e)) = (e ≡ state_fault 34 256) × UnheldIn g h
Says strip strips h (shown g out (Ok n) by) = HeldIn g h × SpeaksForAll (take n by) g h
Says strip strips h (shown g out (Err e) by) =
    ((e ≡ state_fault 34 256) × UnheldIn g h) ⊎ ((e ≡ state_fault 32 256) × HeldIn g h)

-- At each moment of the history of a shelf of so many strips of one length all that was true.
abbrev pub Lawful : ℕ → ℕ → History → Type 0
Lawful strip strips [] = Unit {0}
Lawful strip strips (e ∷ h) = Says strip strips h e × SameFacts (e ∷ h) × Lawful strip strips h

-- 5. What the shelf answers now

-- Of a group that is held: count answers the difference, and show writes a head that speaks for every store filed into it.
pub record Holding (h : History) (c : Contents) (g : ℕ) : Type 0 where
  pub head : List ℕ
  pub count : count_answer c g ≡ Ok (filings g h - releases g h)
  pub release : release_answer c g ≡ Ok tt
  pub show : (room : ℕ) → length head ≤ room → head_shown c g room ≡ Ok head
  pub no_room : (room : ℕ) → room < length head → head_shown c g room ≡ refused 32
  pub speaks : SpeaksForAll head g h

-- Of one that is not: all three are refused with 34.
pub record Lacking (c : Contents) (g : ℕ) : Type 0 where
  pub count : count_answer c g ≡ refused 34
  pub release : release_answer c g ≡ refused 34
  pub show : (room : ℕ) → head_shown c g room ≡ refused 34

pub record Keeps (h : History) (c : Contents) : Type 0 where
  pub held : (g : ℕ) → HeldIn g h → Holding h c g
  pub unheld : (g : ℕ) → UnheldIn g h → Lacking c g

-- 6. What the contract of a call says: whatever happened before, the law stands after it.

pub record Goes (h : History) (c : Contents) : Type 0 where
  pub ran : Ran h c
  pub lawful : Lawful c.strip (length c.rows) h
  pub same : SameFacts h
  pub keeps : Keeps h c

abbrev pub Continues : Contents → Event → Contents → Type 0
Continues c e d = (h : History) → Ran h c → Goes (e ∷ h) d
