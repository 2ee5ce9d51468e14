-- The records of a section stand where their lengths say.
use Rattle.std.proofs.Common.{◌≡◌, ℕ, zero, suc, ◌+◌, ◌-◌, ◌<◌, ◌≤◌, Bool, true, false, cond, ltb, List, [], ◌∷◌, length, take, drop, Some, None, Ok, Err, Option, Result, sym, refl, ap, ◌∙◌, subst, ⊎_elim, arith}
use Rattle.std.proofs.lemmas.Bool.{ltb-true, ltb-false, lt-ltb, le-ltb, cases_lt}
use Rattle.std.proofs.lemmas.List.{length-drop, drop-drop}
use Rattle.wire.specs.Faults.{section_fault}
use Rattle.wire.specs.Numbers.{number}
use Rattle.wire.specs.declared.order.ByteOrder.{ByteOrder}
use Rattle.wire.specs.declared.refusal.Fault.{Fault}
use Rattle.perf_data.specs.Questions.{present, question}
use Rattle.simpleperf.specs.Laws.{length_at, next_at, value_read, record_at, FillSection, RecordsFill}
use Rattle.simpleperf.specs.Parse.{Got, and_then, read_number, within, before, run}
use Rattle.simpleperf.specs.Tables.{File, file_in, file_of_length, sized_file, symbol_tables}
use Rattle.simpleperf.proofs.Items.{not_ok}
use Rattle.simpleperf.proofs.Runs.{run-next, run_more, end}
use Rattle.simpleperf.proofs.Sized.{inside, shorter}

value-within : {V : Type 0} (r : Result (Got V) Fault) (t : List ℕ) → value_read (within r t) ≡ value_read r
value-within (Ok g) t = refl
value-within (Err f) t = refl

module _ (o : ByteOrder) (s : List ℕ) (at : ℕ) (inside_it : at ≤ length s) where
  abbrev t : List ℕ
  t = drop at s

  abbrev len : ℕ
  len = length_at o s at

  abbrev short : Fault
  short = section_fault 11 128 at

  abbrev outside : Fault
  outside = section_fault 6 128 at

  long : length t ≡ length s - at
  long = length-drop at s

  behind : drop 4 t ≡ drop (at + 4) s
  behind = drop-drop 4 at s

  past : drop len (drop 4 t) ≡ drop (next_at o s at) s
  past = ap (drop len) behind ∙ drop-drop len (at + 4) s

  -- the record that its length counts
  counted_by : (b : Bool) → b ≡ ltb (length (drop 4 t)) len → 4 ≤ length t → value_read (cond b (Err outside) (within (file_in o len (take len (drop 4 t))) (drop len (drop 4 t)))) ≡ cond (ltb (length s) (next_at o s at)) (Err outside) (value_read (file_in o len (take len (drop (at + 4) s))))
  counted_by true p l =
      let over : ltb (length s) (next_at o s at) ≡ true = lt-ltb (length s) (next_at o s at) (omega (arith, ltb-true (length (drop 4 t)) len (sym p), length-drop 4 t, long)) in
      sym (ap (λ b. cond b (Err outside) (value_read (file_in o len (take len (drop (at + 4) s))))) over)
  counted_by false p l =
      let fits : ltb (length s) (next_at o s at) ≡ false = le-ltb (length s) (next_at o s at) (omega (arith, ltb-false (length (drop 4 t)) len (sym p), length-drop 4 t, long, l)) in
      value-within (file_in o len (take len (drop 4 t))) (drop len (drop 4 t))
      ∙ ap (λ u. value_read (file_in o len (take len u))) behind
      ∙ sym (ap (λ b. cond b (Err outside) (value_read (file_in o len (take len (drop (at + 4) s))))) fits)

  sized_by : (b : Bool) → b ≡ ltb (length t) 4 → value_read (and_then (read_number short 4 t (cond b None (Some len))) (file_of_length o at)) ≡ record_at o s at
  sized_by true p =
      let cut : ltb (length s) (at + 4) ≡ true = lt-ltb (length s) (at + 4) (omega (arith, ltb-true (length t) 4 (sym p), long)) in
      sym (ap (λ b. cond b (Err short) (cond (ltb (length s) (next_at o s at)) (Err outside) (value_read (file_in o len (take len (drop (at + 4) s)))))) cut)
  sized_by false p =
      let l = ltb-false (length t) 4 (sym p) in
      let whole : ltb (length s) (at + 4) ≡ false = le-ltb (length s) (at + 4) (omega (arith, l, long)) in
      counted_by (ltb (length (drop 4 t)) len) refl l
      ∙ sym (ap (λ b. cond b (Err short) (cond (ltb (length s) (next_at o s at)) (Err outside) (value_read (file_in o len (take len (drop (at + 4) s)))))) whole)

  here : length s - length t ≡ at
  here = omega (arith, long)

  pub record-is : value_read (sized_file o (length s) t) ≡ record_at o s at
  record-is =
      ap (λ n. value_read (and_then (read_number (section_fault 11 128 n) 4 t (number o 4 t)) (file_of_length o n))) here
      ∙ sized_by (ltb (length t) 4) refl

  -- what is left behind a record
  rest_counted : (b : Bool) → b ≡ ltb (length (drop 4 t)) len → 4 ≤ length t → (g : Got File) → cond b (Err outside) (within (file_in o len (take len (drop 4 t))) (drop len (drop 4 t))) ≡ Ok g → (g.rest ≡ drop (next_at o s at) s) × (next_at o s at ≤ length s)
  rest_counted true p l g h = not_ok outside g h
  rest_counted false p l g h = (
    inside (file_in o len (take len (drop 4 t))) (drop len (drop 4 t)) g h ∙ past,
    omega (arith, ltb-false (length (drop 4 t)) len (sym p), length-drop 4 t, long, l),
  )

  rest_by : (b : Bool) → b ≡ ltb (length t) 4 → (g : Got File) → and_then (read_number short 4 t (cond b None (Some len))) (file_of_length o at) ≡ Ok g → (g.rest ≡ drop (next_at o s at) s) × (next_at o s at ≤ length s)
  rest_by true p g h = not_ok short g h
  rest_by false p g h = rest_counted (ltb (length (drop 4 t)) len) refl (ltb-false (length t) 4 (sym p)) g h

  pub rest-is : (g : Got File) → sized_file o (length s) t ≡ Ok g → (g.rest ≡ drop (next_at o s at) s) × (next_at o s at ≤ length s)
  rest-is g h =
      rest_by (ltb (length t) 4) refl g
      (sym (ap (λ n. and_then (read_number (section_fault 11 128 n) 4 t (number o 4 t)) (file_of_length o n)) here) ∙ h)

module _ (o : ByteOrder) (s : List ℕ) where
  abbrev item : List ℕ → Result (Got File) Fault
  item = sized_file o (length s)

  -- one record, and what is answered of those behind it
  and_behind : (at : ℕ) (f : File) → record_at o s at ≡ Ok f → next_at o s at ≤ length s → (r : Result (List File) Fault) → FillSection o s (next_at o s at) r → FillSection o s at (before f r)
  and_behind at f e l (Ok fs) h = (e, l, h)
  and_behind at f e l (Err fault) h = (f ∷ h.0, h.1, (e, l, h.2), h.3, h.4)

  one : (n at : ℕ) → length s - at ≤ n → at < length s → (x : Result (Got File) Fault) → item (drop at s) ≡ x → ((on : ℕ) → length s - on < n → on ≤ length s → FillSection o s on (run item (drop on s))) → FillSection o s at (run item (drop at s))
  one n at l i (Err f) h more =
      let some : 0 < length (drop at s) = omega (arith, length-drop at s) in
      let is : record_at o s at ≡ Err f = sym (record-is o s at (omega (arith, i))) ∙ ap value_read h in
      subst (FillSection o s at) (sym (run-next item (shorter o (length s)) (drop at s) (Err f) some h)) ([], at, refl, i, is)
  one n at l i (Ok g) h more =
      let is : record_at o s at ≡ Ok g.value = sym (record-is o s at (omega (arith, i))) ∙ ap value_read h in
      let rest = rest-is o s at (omega (arith, i)) g h in
      let go : run item (drop at s) ≡ before g.value (run item (drop (next_at o s at) s)) =
      run_more item (shorter o (length s)) (drop at s) g h ∙ ap (λ u. before g.value (run item u)) rest.0 in
      let step : length s - next_at o s at < n = omega (arith, l, i) in
      subst (FillSection o s at) (sym go) (and_behind at g.value is rest.1 (run item (drop (next_at o s at) s)) (more (next_at o s at) step rest.1))

  last : (at : ℕ) → at ≡ length s → FillSection o s at (run item (drop at s))
  last at e =
      let none : length (drop at s) ≡ 0 = omega (arith, length-drop at s) in
      subst (FillSection o s at) (sym (end item (shorter o (length s)) (length (drop at s)) (drop at s) none)) e

  fill_within : (n at : ℕ) → length s - at < n → at ≤ length s → FillSection o s at (run item (drop at s))
  fill_within zero at l i = absurd (omega arith)
  fill_within (suc n) at l i =
      ⊎_elim
      (λ m. one n at (omega (arith, l)) m (item (drop at s)) refl (λ on k j. fill_within n on k j))
      (λ m. last at (omega (arith, m, i)))
      (cases_lt at (length s))

  pub fills : FillSection o s 0 (symbol_tables o s)
  fills = fill_within (suc (length s)) 0 (omega arith) (omega arith)

answer_by : (o : ByteOrder) (s : List ℕ) (r : Result (List File) Fault) → FillSection o s 0 r → RecordsFill o (Some s) (present r)
answer_by o s (Ok fs) h = h
answer_by o s (Err f) h = h

records_of : (o : ByteOrder) (section : Option (List ℕ)) → RecordsFill o section (question symbol_tables o section)
records_of o None = refl
records_of o (Some s) = answer_by o s (symbol_tables o s) (fills o s)

pub records-fill : (o : ByteOrder) (section : Option (List ℕ)) (answer : Result (Option (List File)) Fault) → answer ≡ question symbol_tables o section → RecordsFill o section answer
records-fill o section answer e = subst (RecordsFill o section) (sym e) (records_of o section)
