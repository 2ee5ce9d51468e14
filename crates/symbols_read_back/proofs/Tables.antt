-- The records of a section, each with its length before it, are read again from the bytes that a head has of them.
use Rattle.std.proofs.Common.{◌≡◌, ℕ, ◌+◌, ◌-◌, ◌<◌, ◌≤◌, ltb, List, [], ◌++◌, length, take, drop, Ok, Err, sym, refl, ap, ◌∙◌, subst, arith}
use Rattle.std.specs.List.{flat_map}
use Rattle.std.proofs.lemmas.List.{append_assoc, append-nil, length-append, length-take-le, length-drop, take_at, drop_at}
use Rattle.std.proofs.lemmas.Bool.{cond-false, le-ltb, ltb-false}
use Rattle.wire.specs.Faults.{section_fault}
use Rattle.wire.specs.declared.order.ByteOrder.{ByteOrder}
use Rattle.wire.specs.declared.order.ByteOrder.TheVariants.{Little}
use Rattle.wire.proofs.Digits.{length-bytes_of}
use Rattle.simpleperf.specs.Parse.{Got, got, and_then, number_or, within}
use Rattle.simpleperf.specs.Tables.{File, file_in, file_of_length, sized_file, symbol_tables}
use Rattle.facts.specs.Laws.{ReadsBack}
use Rattle.facts.specs.Written.{u32, file_bytes, sized_bytes}
use Rattle.symbols_read_back.proofs.Law.{Law, got-is, and_then_ok}
use Rattle.symbols_read_back.proofs.Parts.{Fits, number_law, tested_ok}
use Rattle.symbols_read_back.proofs.Records.{FineFile, file_law}
use Rattle.symbols_read_back.proofs.Runs.{ran, run-again}

-- ---- a record within its length

-- The length before a record.
length_law : Law (λ o total s. number_or (section_fault 11 128 (total - length s)) o 4 s) u32 (Fits 4) 0
length_law = number_law (λ total s. section_fault 11 128 (total - length s)) 4

-- what a record that was read tells: the part that its length counts
record Inside (o : ByteOrder) (s : List ℕ) (g : Got File) : Type 0 where
  part : List ℕ
  inner : Got File
  is : file_in o (length part) part ≡ Ok inner
  value : inner.value ≡ g.value
  long : 4 + length part + length g.rest ≤ length s

inside : (o : ByteOrder) (total : ℕ) (s : List ℕ) (g : Got File) → length s ≤ 16777216 → sized_file o total s ≡ Ok g → Inside o s g
inside o total s g b e =
    let at = total - length s in
    let (h, eh, e') = and_then_ok (number_or (section_fault 11 128 at) o 4 s) (file_of_length o at) g e in
    let len = h.value in
    let t = h.rest in
    let (fits, e'') = tested_ok (ltb (length t) len) (section_fault 6 128 at) (within (file_in o len (take len t)) (drop len t)) g e' in
    let (i, ei, q) = and_then_ok (file_in o len (take len t)) (λ v _. got v (drop len t)) g e'' in
    let same = got-is i.value (drop len t) g q in
    let whole : length (take len t) ≡ len = length-take-le len t (ltb-false (length t) len fits) in
    record {
      part = take len t;
      inner = i;
      is = ap (λ n. file_in o n (take len t)) whole ∙ ei;
      value = ap (λ x. x.value) same;
      long = omega (arith, ltb-false (length t) len fits, length-drop len t, ap (λ x. length x.rest) same, length_law.short o total s h b eh, length-bytes_of 4 len, whole);
    }

abbrev FineSized : File → Type 0
FineSized f = FineFile f × Fits 4 (length (file_bytes f))

sized-length : (f : File) → length (sized_bytes f) ≡ 4 + length (file_bytes f)
sized-length f = length-append (u32 (length (file_bytes f))) (file_bytes f) ∙ ap (λ n. n + length (file_bytes f)) (length-bytes_of 4 (length (file_bytes f)))

sized-again : (f : File) → FineSized f → (n : ℕ) (t : List ℕ) → sized_file Little n (sized_bytes f ++ t) ≡ got f t
sized-again f (fine, fits) n t =
    let w = file_bytes f in
    let len = length w in
    let at = n - length (sized_bytes f ++ t) in
    ap (λ x. and_then (number_or (section_fault 11 128 at) Little 4 x) (file_of_length Little at)) (append_assoc (u32 len) w t)
    ∙ ap (λ x. and_then x (file_of_length Little at)) ((number_law (λ _ _. section_fault 11 128 at) 4).again len fits n (w ++ t))
    ∙ cond-false (ltb (length (w ++ t)) len) (Err (section_fault 6 128 at)) (within (file_in Little len (take len (w ++ t))) (drop len (w ++ t))) (le-ltb (length (w ++ t)) len (omega (arith, length-append w t)))
    ∙ ap (λ x. within (file_in Little len x) (drop len (w ++ t))) (take_at w t len refl ∙ sym (append-nil w))
    ∙ ap (λ x. within x (drop len (w ++ t))) (file_law.again f fine len [])
    ∙ ap (λ x. got f x) (drop_at w t len refl)

sized_law : Law sized_file sized_bytes FineSized 8
sized_law =
    record {
      fine = λ o n s g b e.
          let r = inside o n s g b e in
          let l = r.long in
          let k : length r.part ≤ 16777216 = omega arith in
          let d = file_law.short o (length r.part) r.part r.inner k r.is in
          subst FineSized r.value (file_law.fine o (length r.part) r.part r.inner k r.is, omega arith);
      again = sized-again;
      short = λ o n s g b e.
          let r = inside o n s g b e in
          let l = r.long in
          let d = file_law.short o (length r.part) r.part r.inner (omega arith) r.is in
          omega (arith, ap (λ f. length (file_bytes f)) r.value, sized-length g.value);
    }

-- A record has a length, a NUL, a type and an address at least.
sized_wide : (f : File) → 16 < length (sized_bytes f)
sized_wide f = simp (length-append, length-bytes_of) (omega arith)

-- ---- the records of a section

pub symbols_back : ReadsBack symbol_tables (flat_map sized_bytes)
symbols_back =
    record {
      again = λ o s fs b e. let j = length (flat_map sized_bytes fs) in run-again sized_law sized_wide fs (ran sized_law sized_wide o (length s) (length s) s fs b e).fine j j (omega arith);
      short = λ o s fs b e. (ran sized_law sized_wide o (length s) (length s) s fs b e).short;
    }
