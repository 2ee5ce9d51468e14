-- A build id record, as a head has it, is read as its entry.
use Rattle.std.proofs.Common.{◌≡◌, ℕ, ◌+◌, ◌-◌, ◌/◌, ◌%◌, ◌^◌, ◌<◌, ◌≤◌, min, max, true, eqb, ltb, List, ◌++◌, length, get_or, take, drop, replicate, is_some, IfSome, Some, None, Option, unwrap_or, sym, refl, ap, ◌∙◌, subst, arith}
use Rattle.std.specs.Option.{option_map}
use Rattle.std.proofs.lemmas.List.{append_assoc, length-append, length-replicate, take_at, drop_at, drop-drop, get_or-append_right}
use Rattle.std.proofs.lemmas.Bool.{le-ltb, eq-eqb, cond-true, cond-false, false≢true}
use Rattle.wire.specs.Numbers.{number, bytes_of}
use Rattle.wire.specs.declared.order.ByteOrder.TheVariants.{Little}
use Rattle.wire.proofs.Digits.{number-again}
use Rattle.text.specs.Strings.{before_nul}
use Rattle.dso_key.specs.Detect.{detect}
use Rattle.dso_key.specs.Keys.{Key}
use Rattle.dso_key.specs.Least.{least_of}
use Rattle.dso_key.specs.Modes.{mode_of}
use Rattle.dso_key.specs.declared.cpu_mode.CpuMode.{CpuMode}
use Rattle.dso_key.proofs.Leasts.{least_some, least_again}
use Rattle.build_ids.specs.Events.{Event, id_of, whole, sized, headed, event}
use Rattle.build_ids.specs.Table.{Entry, entry_of}
use Rattle.facts.specs.Written.{u16, u32, mode_for, id_bytes, build_bytes}
use Rattle.read_back.proofs.Numbers.{past_number, length_past}

-- What an entry of a table is: its path has its key in some mode and no NUL, its record's size is a number of 16 bits, and
-- its id has 20 bytes at most.
pub record FineBuild (e : Entry) : Type 0 where
  pub mode : CpuMode
  pub gives : detect e.1.0 mode ≡ Some e.0
  pub bare : before_nul e.1.0 ≡ e.1.0
  pub size : 36 + length e.1.0 < 2 ^ 16
  pub id-size : length e.1.1 ≤ 20

-- ---- the least mode

least_by : (path : List ℕ) (key : Key) (o : Option ℕ) → is_some o ≡ true → IfSome o (λ m. (m < 6) × (detect path (mode_of m) ≡ Some key)) → (unwrap_or o 0 < 6) × (detect path (mode_of (unwrap_or o 0)) ≡ Some key)
least_by path key None s f = absurd (false≢true s)
least_by path key (Some m) s f = f

mode_gives : (path : List ℕ) (key : Key) (mode : CpuMode) → detect path mode ≡ Some key → (mode_for key path < 6) × (detect path (mode_of (mode_for key path)) ≡ Some key)
mode_gives path key mode d =
    least_by path key (least_of path (Some key))
    (subst (λ (x : Option Key). is_some (least_of path x) ≡ is_some x) d (least_some path mode))
    (subst (λ (x : Option Key). IfSome (least_of path x) (λ m. (m < 6) × (detect path (mode_of m) ≡ x))) d (least_again path mode))

-- ---- the id in its 24 bytes

module _ (id : List ℕ) (h : length id ≤ 20) where
  abbrev after : List ℕ
  after = bytes_of Little 1 (length id) ++ replicate 3 0

  abbrev zeros : List ℕ
  zeros = replicate (20 - length id) 0

  length_zeros : length zeros ≡ 20 - length id
  length_zeros = length-replicate (20 - length id) 0

  pub length-id : length (id_bytes id) ≡ 24
  length-id =
      omega (arith, length-append id (zeros ++ after), length-append zeros after, length_zeros, length_past 1 (length id) (replicate 3 0))

  first_byte : get_or after 0 0 ≡ length id
  unfolding bytes_of
  first_byte = omega arith

  length_byte : get_or (id_bytes id) 20 0 ≡ length id
  length_byte =
      let n = 20 - length id in
      let z : n - n ≡ 0 = omega arith in
      get_or-append_right id (zeros ++ after) (length id) 20 0 refl h
      ∙ get_or-append_right zeros after n n 0 length_zeros (omega arith)
      ∙ ap (λ k. get_or after k 0) z
      ∙ first_byte

  id-again : (misc : ℕ) → misc / 0x8000 % 2 ≡ 1 → id_of misc (id_bytes id) ≡ id
  id-again misc flag =
      let n : min (get_or (id_bytes id) 20 0) 20 ≡ length id = omega (arith, length_byte) in
      cond-true (eqb (misc / 0x8000 % 2) 1) _ _ (eq-eqb (misc / 0x8000 % 2) 1 flag)
      ∙ ap (λ k. take k (id_bytes id)) n
      ∙ take_at id (zeros ++ after) (length id) refl

-- ---- the record

module _ (key : Key) (path id t : List ℕ) (fine : FineBuild (key, (path, id))) where
  abbrev misc : ℕ
  misc = 0x8000 + mode_for key path

  abbrev size : ℕ
  size = 36 + length path

  abbrev from12 : List ℕ
  from12 = id_bytes id ++ (path ++ t)

  abbrev from6 : List ℕ
  from6 = u16 size ++ (u32 0 ++ from12)

  abbrev from4 : List ℕ
  from4 = u16 misc ++ from6

  abbrev all : List ℕ
  all = u32 67 ++ from4

  all_is : build_bytes (key, (path, id)) ++ t ≡ all
  all_is = simp append_assoc

  at4 : drop 4 all ≡ from4
  at4 = past_number 4 67 from4

  at6 : drop 6 all ≡ from6
  at6 = sym (drop-drop 2 4 all) ∙ ap (drop 2) at4 ∙ past_number 2 misc from6

  at12 : drop 12 all ≡ from12
  at12 = sym (drop-drop 6 6 all) ∙ ap (drop 6) at6 ∙ sym (drop-drop 4 2 from6) ∙ ap (drop 4) (past_number 2 size (u32 0 ++ from12)) ∙ past_number 4 0 from12

  at36 : drop 36 all ≡ path ++ t
  at36 = sym (drop-drop 24 12 all) ∙ ap (drop 24) at12 ∙ drop_at (id_bytes id) (path ++ t) 24 (length-id id fine.id-size)

  low : mode_for key path < 6
  low = (mode_gives path key fine.mode fine.gives).0

  length_all : length all ≡ size + length t
  length_all =
      omega (arith, length_past 4 67 from4, length_past 2 misc from6, length_past 2 size (u32 0 ++ from12), length_past 4 0 from12, length-append (id_bytes id) (path ++ t), length-id id fine.id-size, length-append path t)

  abbrev the : Event
  the = record { misc = misc; id = id; path = path; size = size }

  whole_is : whole misc size all ≡ the
  whole_is =
      let flag : misc / 0x8000 % 2 ≡ 1 = omega (arith, low) in
      let n : size - 36 ≡ length path = omega arith in
      let i : id_of misc (take 24 (drop 12 all)) ≡ id =
      ap (λ x. id_of misc (take 24 x)) at12 ∙ ap (id_of misc) (take_at (id_bytes id) (path ++ t) 24 (length-id id fine.id-size)) ∙ id-again id fine.id-size misc flag in
      let p : before_nul (take (size - 36) (drop 36 all)) ≡ path =
      ap (λ k. before_nul (take k (drop 36 all))) n ∙ ap (λ x. before_nul (take (length path) x)) at36 ∙ ap before_nul (take_at path t (length path) refl) ∙ fine.bare in
      λ k. record { misc = misc; id = i k; path = p k; size = size }

  event-is : event Little all ≡ Some the
  unfolding event
  event-is =
      let m : max size 36 ≡ size = omega arith in
      ap (λ x. headed x (number Little 2 (drop 6 all)) all) (ap (number Little 2) at4 ∙ number-again 2 misc from6 (omega (arith, low)))
      ∙ ap (λ x. headed (Some misc) x all) (ap (number Little 2) at6 ∙ number-again 2 size (u32 0 ++ from12) fine.size)
      ∙ ap (λ n. sized misc n all) m
      ∙ cond-false (ltb (length all) size) None (Some (whole misc size all)) (le-ltb (length all) size (omega (arith, length_all)))
      ∙ ap Some whole_is

  pub event-again : event Little (build_bytes (key, (path, id)) ++ t) ≡ Some the
  event-again = ap (event Little) all_is ∙ event-is

  pub length_build : length (build_bytes (key, (path, id))) ≡ 36 + length path
  length_build = omega (arith, length_all, ap length all_is, length-append (build_bytes (key, (path, id))) t)

  pub event_past : drop (36 + length path) (build_bytes (key, (path, id)) ++ t) ≡ t
  event_past = drop_at (build_bytes (key, (path, id))) t size length_build

  pub entry-again : entry_of the ≡ Some (key, (path, id))
  entry-again =
      let m : misc % 8 ≡ mode_for key path = omega (arith, low) in
      ap (option_map (λ k. (k, (path, id)))) (ap (λ n. detect path (mode_of n)) m ∙ (mode_gives path key fine.mode fine.gives).1)
