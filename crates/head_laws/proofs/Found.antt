-- What is found in the entries of a head: of each feature the bytes of its answer.
use Rattle.std.proofs.Common.{◌≡◌, ℕ, suc, ◌+◌, ◌^◌, ◌<◌, ◌≤◌, Bool, true, false, cond, eqb, List, [], ◌∷◌, ◌++◌, length, Some, None, Ok, Err, Option, Result, sym, refl, ap, ◌∙◌, subst, arith, lit≤}
use Rattle.std.proofs.lemmas.Bool.{eqb-true, cond-false, ne_eqb}
use Rattle.wire.specs.declared.refusal.Fault.{Fault}
use Rattle.image.specs.Head.{is_carried, head_front}
use Rattle.image.specs.Meaning.{or_else}
use Rattle.image.specs.Run as run
use Rattle.image.specs.Run.{Walk, passed, first_broken, last_of}
use Rattle.facts.specs.declared.carried.Carried.{Carried}
use Rattle.facts.specs.declared.carried.Carried.TheVariants.{BuildId, Hostname, OsRelease, Version, Arch, NrCpus, CpuDesc, CpuId, TotalMem, CmdLine, PmuMappings, Stat, ClockId, SimpleperfFile, SimpleperfMetaInfo}
use Rattle.facts.specs.Facts.{number, write}
use Rattle.facts.specs.Head.{Answer, Sections, framed, entry, after, entries, carried}
use Rattle.head_laws.proofs.Frames.{run_framed}

pub not_ok : {X V : Type 0} (e : Fault) (v : V) → Err e ≡ Ok v → X
not_ok e v h = let z : ◌≡◌ {A = ℕ} 0 1 = cc in absurd (omega arith)

-- ---- the carried features

pub record Numbered (f : Carried) : Type 0 where
  pub low : number f ≤ 255
  pub is : is_carried (number f) ≡ true

pub numbered : (f : Carried) → Numbered f
numbered BuildId = record { low = lit≤ tt; is = refl }
numbered Hostname = record { low = lit≤ tt; is = refl }
numbered OsRelease = record { low = lit≤ tt; is = refl }
numbered Version = record { low = lit≤ tt; is = refl }
numbered Arch = record { low = lit≤ tt; is = refl }
numbered NrCpus = record { low = lit≤ tt; is = refl }
numbered CpuDesc = record { low = lit≤ tt; is = refl }
numbered CpuId = record { low = lit≤ tt; is = refl }
numbered TotalMem = record { low = lit≤ tt; is = refl }
numbered CmdLine = record { low = lit≤ tt; is = refl }
numbered PmuMappings = record { low = lit≤ tt; is = refl }
numbered Stat = record { low = lit≤ tt; is = refl }
numbered ClockId = record { low = lit≤ tt; is = refl }
numbered SimpleperfFile = record { low = lit≤ tt; is = refl }
numbered SimpleperfMetaInfo = record { low = lit≤ tt; is = refl }

-- features by rising numbers, from `low` on
abbrev pub Rises : ℕ → List Carried → Type 0
Rises low [] = Unit {0}
Rises low (f ∷ fs) = (low ≤ number f) × Rises (suc (number f)) fs

pub carried_rise : Rises 0 carried
unfolding carried
carried_rise =
    (lit≤ tt, (lit≤ tt, (lit≤ tt, (lit≤ tt, (lit≤ tt, (lit≤ tt, (lit≤ tt, (lit≤ tt, (lit≤ tt, (lit≤ tt, (lit≤ tt, (lit≤ tt, (lit≤ tt, (lit≤ tt, (lit≤ tt, tt)))))))))))))))

rises_from : (low high : ℕ) (fs : List Carried) → low ≤ high → Rises high fs → Rises low fs
rises_from low high [] h r = tt
rises_from low high (f ∷ fs) h r = (omega arith, r.1)

-- ---- what their entries hold

-- the bytes of an answer in a head, which have to fit an entry
abbrev pub bytes : Answer → Option (List ℕ)
bytes (Ok None) = None
bytes (Ok (Some v)) = Some (write v)
bytes (Err e) = None

abbrev pub Small : Answer → Type 0
Small (Ok None) = Unit {0}
Small (Ok (Some v)) = length (write v) < 2 ^ 32
Small (Err e) = Unit {0}

-- no fault
abbrev pub Whole : Answer → Type 0
Whole (Ok o) = Unit {0}
Whole (Err e) = ⊥

module _ (a : Carried → Answer) where
  -- the section of a number among the entries of some features
  abbrev pub among : List Carried → Sections
  among [] n = None
  among (f ∷ fs) n = cond (eqb (number f) n) (bytes (a f)) (among fs n)

  abbrev pub AllWhole : List Carried → Type 0
  AllWhole [] = Unit {0}
  AllWhole (f ∷ fs) = Whole (a f) × AllWhole fs

  none_below : (low n : ℕ) (fs : List Carried) → Rises low fs → n < low → among fs n ≡ None
  none_below low n [] r h = refl
  none_below low n (f ∷ fs) r h =
      cond-false (eqb (number f) n) _ _ (ne_eqb (number f) n (λ e. omega (arith, r.0))) ∙ none_below (suc (number f)) n fs r.1 (omega (arith, r.0))

-- a walk without a fault, which finds these sections
pub record Walked (walk : Walk) (at : Sections) : Type 0 where
  pub sound : first_broken walk ≡ None
  pub finds : (n : ℕ) → last_of n walk ≡ at n

or_none : {X : Type 0} (o : Option X) → or_else o None ≡ o
or_none None = refl
or_none (Some x) = refl

-- the entry of one feature, and then those of others with higher numbers
module _ (total : ℕ) (f : Carried) (at : Sections) (above : (n : ℕ) → n ≤ number f → at n ≡ None) where
  same_below : (n : ℕ) (o : Option (List ℕ)) (b : Bool) → eqb (number f) n ≡ b → or_else (at n) (cond b o None) ≡ cond b o (at n)
  same_below n o true e = ap (λ x. or_else x o) (above n (omega (arith, eqb-true (number f) n e)))
  same_below n o false e = or_none (at n)

  step : (r : Answer) (rest : Result (List ℕ) Fault) (b : List ℕ) (low : ℕ) → Small r → low ≤ number f → after (entry f r) rest ≡ Ok b → ((more : List ℕ) → rest ≡ Ok more → (k : ℕ) → k ≤ suc (number f) → Walked (run.run head_front k total more) at) → Walked (run.run head_front low total b) (λ n. cond (eqb (number f) n) (bytes r) (at n))
  step (Ok None) (Ok y) b low small l e next =
      let q : y ≡ b = cc in
      let w = subst (λ (x : List ℕ). Walked (run.run head_front low total x) at) q (next y refl low (omega arith)) in
      record { sound = w.sound; finds = λ n. w.finds n ∙ (sym (or_none (at n)) ∙ none_either n (eqb (number f) n) refl) }
    where
      none_either : (n : ℕ) (b : Bool) → eqb (number f) n ≡ b → or_else (at n) None ≡ cond b None (at n)
      none_either n true e = ap (λ x. or_else x None) (above n (omega (arith, eqb-true (number f) n e)))
      none_either n false e = or_none (at n)
  step (Ok (Some v)) (Ok y) b low small l e next =
      let q : framed (number f) (write v) ++ y ≡ b = cc in
      let k = numbered f in
      let w = next y refl (number f + 1) (omega arith) in
      let is : run.run head_front low total b ≡ run.entry (Some (number f)) (write v) (run.run head_front (number f + 1) total y) =
      sym (ap (λ (x : List ℕ). run.run head_front low total x) q) ∙ run_framed (number f) (write v) y low total l k.is (omega (arith, k.low)) small in
      record {
        sound = ap first_broken is ∙ w.sound;
        finds = λ n.
            ap (last_of n) is
            ∙ (ap (λ x. or_else x (cond (eqb (number f) n) (Some (write v)) None)) (w.finds n) ∙ same_below n (Some (write v)) (eqb (number f) n) refl);
      }
  step (Ok None) (Err x) b low small l e next = not_ok x b e
  step (Ok (Some v)) (Err x) b low small l e next = not_ok x b e
  step (Err x) rest b low small l e next = not_ok x b e

module _ (a : Carried → Answer) (small : (f : Carried) → Small (a f)) (total : ℕ) where
  pub walked : (fs : List Carried) (b : List ℕ) (low : ℕ) → Rises low fs → entries a fs ≡ Ok b → Walked (run.run head_front low total b) (among a fs)
  unfolding passed
  walked [] b low r e =
      let q : [] ≡ b = cc in
      subst (λ (x : List ℕ). Walked (run.run head_front low total x) (λ n. None)) q (record { sound = refl; finds = λ n. refl })
  walked (f ∷ fs) b low r e =
      step total f (among a fs) (λ n h. none_below a (suc (number f)) n fs r.1 (omega arith)) (a f) (entries a fs) b low (small f) r.0 e
      (λ more q k h. walked fs more k (rises_from k (suc (number f)) fs h r.1) q)

-- none of the answers is a fault
whole_step : (f : Carried) (r : Answer) (rest : Result (List ℕ) Fault) (b : List ℕ) → after (entry f r) rest ≡ Ok b → Whole r × (more : List ℕ) × (rest ≡ Ok more)
whole_step f (Ok None) (Ok y) b e = (tt, y, refl)
whole_step f (Ok (Some v)) (Ok y) b e = (tt, y, refl)
whole_step f (Ok None) (Err x) b e = not_ok x b e
whole_step f (Ok (Some v)) (Err x) b e = not_ok x b e
whole_step f (Err x) rest b e = not_ok x b e

pub all_whole : (a : Carried → Answer) (fs : List Carried) (b : List ℕ) → entries a fs ≡ Ok b → AllWhole a fs
all_whole a [] b e = tt
all_whole a (f ∷ fs) b e =
    let w = whole_step f (a f) (entries a fs) b e in
    (w.0, all_whole a fs w.1 w.2)
