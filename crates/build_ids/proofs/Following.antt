-- The records of a section follow one another, to the first that would end past it.
use Rattle.std.proofs.Common.{◌≡◌, ℕ, zero, suc, ◌+◌, ◌-◌, ◌<◌, ◌≤◌, max, Bool, true, false, cond, ltb, List, ◌∷◌, length, take, drop, Some, None, Option, sym, refl, ap, ◌∙◌, subst, arith}
use Rattle.std.proofs.lemmas.Bool.{ltb-true}
use Rattle.std.proofs.lemmas.List.{length-drop, drop-drop}
use Rattle.wire.specs.Numbers.{number, number_of}
use Rattle.wire.specs.declared.order.ByteOrder.{ByteOrder}
use Rattle.build_ids.specs.Events.{Event, event, headed, whole, records}
use Rattle.build_ids.specs.Laws.{size_at, RecordsFollow}
use Rattle.build_ids.proofs.Reading.{records-end, records-more, event-size, none_not}
use Rattle.build_ids.proofs.Trims.{id-trimmed}

module _ (o : ByteOrder) (t : List ℕ) where
  abbrev size : ℕ
  size = max (number_of o (take 2 (drop 6 t))) 36

  some_not : {X : Type 0} (e : Event) → ◌≡◌ {A = Option Event} (Some e) None → X
  some_not e h = none_not e (sym h)

  -- no record stands where fewer bytes are left than it has
  short_sized : (misc : ℕ) (b : Bool) → b ≡ ltb (length t) size → cond b None (Some (whole misc size t)) ≡ None → length t < size
  short_sized misc true p h = ltb-true (length t) size (sym p)
  short_sized misc false p h = some_not (whole misc size t) h

  short_by : (misc : Option ℕ) (b : Bool) → b ≡ ltb (length (drop 6 t)) 2 → (misc ≡ None → length t < 36) → headed misc (cond b None (Some (number_of o (take 2 (drop 6 t))))) t ≡ None → length t < size
  short_by None b p f h = let l = f refl in omega (arith, l)
  short_by (Some misc) true p f h = omega (arith, ltb-true (length (drop 6 t)) 2 (sym p), length-drop 6 t)
  short_by (Some misc) false p f h = short_sized misc (ltb (length t) size) refl h

  misc_short : (b : Bool) → b ≡ ltb (length (drop 4 t)) 2 → ◌≡◌ {A = Option ℕ} (cond b None (Some (number_of o (take 2 (drop 4 t))))) None → length t < 36
  misc_short true p h = omega (arith, ltb-true (length (drop 4 t)) 2 (sym p), length-drop 4 t)
  misc_short false p h = let z : ◌≡◌ {A = ℕ} 0 1 = cc in absurd (omega arith)

  none-short : event o t ≡ None → length t < size
  unfolding event
  none-short h =
      short_by (number o 2 (drop 4 t)) (ltb (length (drop 6 t)) 2) refl (misc_short (ltb (length (drop 4 t)) 2) refl) h

  -- a record has the size that it says
  size_sized : (misc : ℕ) (b : Bool) (e : Event) → cond b None (Some (whole misc size t)) ≡ Some e → e.size ≡ size
  size_sized misc true e h = none_not e h
  size_sized misc false e h = let q : whole misc size t ≡ e = cc in sym (ap (λ (x : Event). x.size) q)

  size_by : (misc : Option ℕ) (b : Bool) (e : Event) → headed misc (cond b None (Some (number_of o (take 2 (drop 6 t))))) t ≡ Some e → e.size ≡ size
  size_by None b e h = none_not e h
  size_by (Some misc) true e h = none_not e h
  size_by (Some misc) false e h = size_sized misc (ltb (length t) size) e h

  some-size : (e : Event) → event o t ≡ Some e → e.size ≡ size
  unfolding event
  some-size e h = size_by (number o 2 (drop 4 t)) (ltb (length (drop 6 t)) 2) e h

module _ (o : ByteOrder) (s : List ℕ) where
  size-there : (at : ℕ) → size o (drop at s) ≡ size_at o s at
  size-there at = ap (λ t. max (number_of o (take 2 t)) 36) (drop-drop 6 at s)

  follow_by : (n at : ℕ) → length s - at ≤ n → (x : Option Event) → event o (drop at s) ≡ x → ((at : ℕ) → length s - at < n → RecordsFollow o s at (records o (drop at s))) → RecordsFollow o s at (records o (drop at s))
  follow_by n at l None h more =
      let short : length s < at + size_at o s at = omega (arith, none-short o (drop at s) h, size-there at, length-drop at s) in
      subst (RecordsFollow o s at) (sym (records-end o (drop at s) h)) short
  follow_by n at l (Some e) h more =
      let z = event-size o (drop at s) e h in
      let is : records o (drop at s) ≡ e ∷ records o (drop (at + e.size) s) =
      records-more o (drop at s) e h ∙ ap (λ t. e ∷ records o t) (drop-drop e.size at s) in
      subst (RecordsFollow o s at) (sym is) (
        h,
        some-size o (drop at s) e h ∙ size-there at,
        omega (arith, z.0, z.1, length-drop at s),
        id-trimmed o (drop at s) e h,
        more (at + e.size) (omega (arith, z.0, z.1, length-drop at s)),
      )

  follow_within : (n at : ℕ) → length s - at < n → RecordsFollow o s at (records o (drop at s))
  follow_within zero at l = absurd (omega arith)
  follow_within (suc n) at l = follow_by n at (omega arith) (event o (drop at s)) refl (λ a k. follow_within n a k)

  pub records-follow : RecordsFollow o s 0 (records o s)
  records-follow = follow_within (suc (length s)) 0 (omega arith)
