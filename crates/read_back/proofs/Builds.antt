-- The table of build ids is read again.
use Rattle.std.proofs.Common.{◌≡◌, ℕ, zero, suc, ◌+◌, ◌-◌, ◌*◌, ◌/◌, ◌%◌, ◌^◌, ◌<◌, ◌≤◌, min, max, Bool, true, false, cond, eqb, ltb, List, [], ◌∷◌, ◌++◌, length, get_or, take, drop, Some, None, Ok, Option, Result, sym, refl, ap, ◌∙◌, subst, arith}
use Rattle.std.specs.List.{flat_map, AllByRecursion as All}
use Rattle.std.specs.Option.{option_map}
use Rattle.std.proofs.lemmas.List.{length-append, length-take, length-drop}
use Rattle.wire.specs.Numbers.{number}
use Rattle.wire.specs.declared.order.ByteOrder.{ByteOrder}
use Rattle.wire.specs.declared.order.ByteOrder.TheVariants.{Little}
use Rattle.wire.specs.declared.refusal.Fault.{Fault}
use Rattle.wire.proofs.Digits.{number_below}
use Rattle.text.specs.Strings.{before_nul}
use Rattle.text.proofs.Headers.{nul_again, nul_within}
use Rattle.dso_key.specs.Keys.{Key}
use Rattle.dso_key.specs.Modes.{mode_of}
use Rattle.dso_key.specs.Order.{keys}
use Rattle.build_ids.specs.Events.{Event, all_zero, less_zeros, whole, headed, event, records}
use Rattle.build_ids.specs.Table.{Entry, key_in, keep, entries_of, build_ids}
use Rattle.build_ids.proofs.Reading.{none_not, event-is, event-size, records-end, records-more}
use Rattle.facts.specs.Laws.{ReadsBack}
use Rattle.facts.specs.Written.{build_bytes}
use Rattle.read_back.proofs.Law.{Law}
use Rattle.read_back.proofs.Records.{FineBuild, length_build, event-again, event_past, entry-again}
use Rattle.read_back.proofs.Tabled.{all_tabled, tabled_lighter, tabled_back}

-- ---- what a record tells

zeros_by : (n : ℕ) (bytes : List ℕ) (b : Bool) → length (less_zeros n bytes) ≤ 4 * n → length (cond b (less_zeros n bytes) (take (4 * suc n) bytes)) ≤ 4 * suc n
zeros_by n bytes true h = omega arith
zeros_by n bytes false h = omega (arith, length-take (4 * suc n) bytes)

zeros_short : (n : ℕ) (bytes : List ℕ) → length (less_zeros n bytes) ≤ 4 * n
unfolding less_zeros
zeros_short zero bytes = omega arith
zeros_short (suc n) bytes = zeros_by n bytes (all_zero (take 4 (drop (4 * n) bytes))) (zeros_short n bytes)

id_by : (bytes : List ℕ) (b : Bool) → length (cond b (take (min (get_or bytes 20 0) 20) bytes) (less_zeros 5 bytes)) ≤ 20
id_by bytes true = omega (arith, length-take (min (get_or bytes 20 0) 20) bytes)
id_by bytes false = zeros_short 5 bytes

-- The size is a number of 16 bits.
small_by : (s : List ℕ) (e : Event) (misc size : ℕ) (b : Bool) → size < 2 ^ 16 → cond b None (Some (whole misc size s)) ≡ Some e → e.size < 2 ^ 16
small_by s e misc size true l h = none_not e h
small_by s e misc size false l h =
    let is : whole misc size s ≡ e = cc in
    omega (arith, ap (λ (x : Event). x.size) is)

small_of : (s : List ℕ) (e : Event) (misc size : Option ℕ) → ((n : ℕ) → size ≡ Some n → n < 2 ^ 16) → headed misc size s ≡ Some e → e.size < 2 ^ 16
small_of s e None size l h = none_not e h
small_of s e (Some misc) None l h = none_not e h
small_of s e (Some misc) (Some size) l h =
    let n = l size refl in
    small_by s e misc (max size 36) (ltb (length s) (max size 36)) (omega arith) h

record Told (e : Event) : Type 0 where
  bare : before_nul e.path ≡ e.path
  long : 36 + length e.path ≤ e.size
  size : e.size < 2 ^ 16
  id-size : length e.id ≤ 20

event_told : (o : ByteOrder) (s : List ℕ) (e : Event) → event o s ≡ Some e → Told e
unfolding event
event_told o s e h =
    let i = event-is o s e h in
    let p = take (i.size - 36) (drop 36 s) in
    let small = small_of s e (number o 2 (drop 4 s)) (number o 2 (drop 6 s)) (λ n k. (number_below o 2 (drop 6 s) n k).0) h in
    let same : i.size ≡ e.size = ap (λ (x : Event). x.size) i.same in
    subst Told i.same
    (record {
      bare = nul_again p;
      long = omega (arith, nul_within p, length-take (i.size - 36) (drop 36 s), i.least);
      size = omega (arith, small, same);
      id-size = id_by (take 24 (drop 12 s)) (eqb (i.misc / 0x8000 % 2) 1);
    })

-- ---- what the entries of a section tell

abbrev Good : List ℕ → List Entry → Type 0
Good s es = All FineBuild es × (length (flat_map build_bytes es) ≤ length s)

good_by : (s t : List ℕ) (e : Event) (k : Option Key) (es : List Entry) → Told e → e.size + length t ≤ length s → key_in e ≡ k → Good t es → Good s (keep (option_map (λ key. (key, (e.path, e.id))) k) es)
good_by s t e None es told l q g = (g.0, omega (arith, g.1))
good_by s t e (Some key) es told l q g =
    let fine : FineBuild (key, (e.path, e.id)) =
    record { mode = mode_of (e.misc % 8); gives = q; bare = told.bare; size = omega (arith, told.long, told.size); id-size = told.id-size } in
    ((fine, g.0), omega (arith, g.1, told.long, length_build key e.path e.id [] fine, length-append (build_bytes (key, (e.path, e.id))) (flat_map build_bytes es)))

module _ (o : ByteOrder) where
  good_at : (n : ℕ) (s : List ℕ) → length s ≤ n → (x : Option Event) → event o s ≡ x → ((t : List ℕ) → length t < n → Good t (entries_of (records o t))) → Good s (entries_of (records o s))
  good_at n s l None h more = subst (λ es. Good s (entries_of es)) (sym (records-end o s h)) (tt, omega arith)
  good_at n s l (Some e) h more =
      let z = event-size o s e h in
      let t = drop e.size s in
      let d : e.size + length t ≡ length s = omega (arith, length-drop e.size s, z.1) in
      subst (λ es. Good s (entries_of es)) (sym (records-more o s e h))
      (good_by s t e (key_in e) (entries_of (records o t)) (event_told o s e h) (omega arith) refl (more t (omega (arith, z.0))))

  good_within : (n : ℕ) (s : List ℕ) → length s < n → Good s (entries_of (records o s))
  good_within zero s l = absurd (omega arith)
  good_within (suc n) s l = good_at n s (omega arith) (event o s) refl (λ t k. good_within n t k)

  good : (s : List ℕ) → Good s (entries_of (records o s))
  good s = good_within (suc (length s)) s (omega arith)

-- ---- the entries are read again, and so is their table

no_event : event Little [] ≡ None
unfolding event
no_event = refl

builds-again : (es : List Entry) → All FineBuild es → entries_of (records Little (flat_map build_bytes es)) ≡ es
builds-again [] f = ap entries_of (records-end Little [] no_event)
builds-again ((key, (path, id)) ∷ es) f =
    let t = flat_map build_bytes es in
    ap entries_of (records-more Little _ _ (event-again key path id t f.0))
    ∙ ap (λ x. keep x (entries_of (records Little (drop (36 + length path) (build_bytes (key, (path, id)) ++ t))))) (entry-again key path id t f.0)
    ∙ ap (λ x. (key, (path, id)) ∷ entries_of (records Little x)) (event_past key path id t f.0)
    ∙ ap (λ x. (key, (path, id)) ∷ x) (builds-again es f.1)

abbrev entries : ByteOrder → List ℕ → Result (List Entry) Fault
entries o s = Ok (entries_of (records o s))

entries_ok : (es xs : List Entry) → ◌≡◌ {A = Result (List Entry) Fault} (Ok es) (Ok xs) → es ≡ xs
entries_ok es xs e = cc

builds_law : Law entries (flat_map build_bytes) (All FineBuild)
builds_law =
    record {
      fine = λ o s es b e. subst (All FineBuild) (entries_ok (entries_of (records o s)) es e) (good o s).0;
      again = λ es f. ap Ok (builds-again es f);
      short = λ o s es b e. omega (arith, (good o s).1, ap (λ (x : List Entry). length (flat_map build_bytes x)) (entries_ok (entries_of (records o s)) es e));
    }

abbrev key : Entry → Key
key e = e.0

pub builds_back : ReadsBack build_ids (flat_map build_bytes)
builds_back =
    tabled_back keys key entries (flat_map build_bytes) (All FineBuild) builds_law (all_tabled keys key FineBuild) (tabled_lighter keys key build_bytes)
