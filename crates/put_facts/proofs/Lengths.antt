-- The records of a section are short enough to be counted.
use Rattle.std.proofs.Common.{◌≡◌, ℕ, zero, suc, ◌+◌, ◌-◌, ◌≤◌, ltb, List, [], ◌∷◌, ◌++◌, length, take, drop, IfSome, Some, None, Ok, Err, Option, Result, sym, refl, ap, subst, arith}
use Rattle.std.specs.List.{flat_map}
use Rattle.std.proofs.lemmas.List.{length-take}
use Rattle.wire.specs.Faults.{section_fault}
use Rattle.wire.specs.declared.order.ByteOrder.{ByteOrder}
use Rattle.wire.specs.declared.refusal.Fault.{Fault}
use Rattle.perf_data.specs.Questions.{present, question}
use Rattle.simpleperf.specs.Parse.{Got, got, before, then_run, run_of, number_or, within}
use Rattle.simpleperf.specs.Tables.{File, file_in, file_of_length, sized_file, symbol_tables}
use Rattle.simpleperf.proofs.Items.{not_ok}
use Rattle.simpleperf.proofs.Sized.{shorter}
use Rattle.put.specs.Overlay.{place}
use Rattle.facts.specs.Written.{u32, file_bytes, sized_bytes}
use Rattle.put_facts.specs.Sized.{counted_file}
use Rattle.put_facts.proofs.Costs.{then_ok, got-is, tested, number_cost, file_cost}

-- of a record with its length before it
sized_cost : (o : ByteOrder) (total : ℕ) (s : List ℕ) (g : Got File) → sized_file o total s ≡ Ok g → length (file_bytes g.value) ≤ length s + 8
sized_cost o total s g h =
    let at = total - length s in
    let len = then_ok (number_or (section_fault 11 128 at) o 4 s) (file_of_length o at) g h in
    let n = len.0.value in
    let t = len.0.rest in
    let inside = tested (ltb (length t) n) (section_fault 6 128 at) (within (file_in o n (take n t)) (drop n t)) g len.2 in
    let file = then_ok (file_in o n (take n t)) (λ v _. got v (drop n t)) g inside.1 in
    let is = got-is file.0.value (drop n t) g file.2 in
    omega (
      arith,
      number_cost (section_fault 11 128 at) o 4 s len.0 len.1,
      file_cost o n (take n t) file.0 file.1,
      length-take n t,
      ap (λ f. length (file_bytes f)) is.0,
    )

-- so its length is counted as it is
counted_so : (f : File) (n : ℕ) → n ≤ 16777216 → length (file_bytes f) ≤ n + 8 → counted_file f ≡ sized_bytes f
counted_so f n h l =
    let same : place (length (file_bytes f)) ≡ length (file_bytes f) = omega arith in
    ap (λ k. u32 k ++ file_bytes f) same

module _ (o : ByteOrder) (total : ℕ) where
  more : (v : File) (vs : List File) (r : Result (List File) Fault) → before v r ≡ Ok vs → counted_file v ≡ sized_bytes v → ((ws : List File) → r ≡ Ok ws → flat_map counted_file ws ≡ flat_map sized_bytes ws) → flat_map counted_file vs ≡ flat_map sized_bytes vs
  more v vs (Ok ws) h one rest =
      let is : v ∷ ws ≡ vs = cc in
      subst (λ xs. flat_map counted_file xs ≡ flat_map sized_bytes xs) is (λ i. one i ++ rest ws refl i)
  more v vs (Err f) h one rest = not_ok f vs h

  step : (k : ℕ) (s : List ℕ) (vs : List File) (r : Result (Got File) Fault) → sized_file o total s ≡ r → length s ≤ 16777216 → then_run r (run_of (sized_file o total) k) ≡ Ok vs → ((t : List ℕ) (ws : List File) → length t ≤ 16777216 → run_of (sized_file o total) k t ≡ Ok ws → flat_map counted_file ws ≡ flat_map sized_bytes ws) → flat_map counted_file vs ≡ flat_map sized_bytes vs
  step k s vs (Ok g) e l h rest =
      more g.value vs (run_of (sized_file o total) k g.rest) h
      (counted_so g.value (length s) l (sized_cost o total s g e))
      (λ ws q. rest g.rest ws (omega (arith, shorter o total s g e)) q)
  step k s vs (Err f) e l h rest = not_ok f vs h

  none : (vs : List File) → ◌≡◌ {A = Result (List File) Fault} (Ok []) (Ok vs) → flat_map counted_file vs ≡ flat_map sized_bytes vs
  none vs h = let is : [] ≡ vs = cc in subst (λ xs. flat_map counted_file xs ≡ flat_map sized_bytes xs) is refl

  run-counted : (k : ℕ) (s : List ℕ) (vs : List File) → length s ≤ 16777216 → run_of (sized_file o total) k s ≡ Ok vs → flat_map counted_file vs ≡ flat_map sized_bytes vs
  unfolding run_of
  run-counted zero [] vs l h = none vs h
  run-counted (suc k) [] vs l h = none vs h
  run-counted zero (b ∷ s) vs l h = none vs h
  run-counted (suc k) (b ∷ s) vs l h = step k (b ∷ s) vs (sized_file o total (b ∷ s)) refl l h (run-counted k)

of_read : (vs : List File) (r : Result (List File) Fault) → Ok (Some vs) ≡ present r → r ≡ Ok vs
of_read vs (Ok ws) h = let is : vs ≡ ws = cc in ap Ok (sym is)
of_read vs (Err f) h = not_ok f (Some vs) (sym h)

-- the files of a section
pub files-counted : (o : ByteOrder) (section : Option (List ℕ)) (vs : List File) → IfSome section (λ s. length s ≤ 16777216) → Ok (Some vs) ≡ question symbol_tables o section → flat_map counted_file vs ≡ flat_map sized_bytes vs
files-counted o None vs l h = let z : ◌≡◌ {A = ℕ} 0 1 = cc in absurd (omega arith)
files-counted o (Some s) vs l h = run-counted o (length s) (length s) s vs l (of_read vs (symbol_tables o s) h)
