-- A u32 count and that many items: what the items tell gives the law of the list.
use Rattle.std.proofs.Common.{◌≡◌, ℕ, ◌+◌, ◌^◌, ◌<◌, ◌≤◌, List, length, drop, Some, None, Ok, Err, Option, Result, sym, refl, ap, ◌∙◌, arith}
use Rattle.std.specs.List.{flat_map, AllByRecursion as All}
use Rattle.std.proofs.lemmas.List.{length-drop}
use Rattle.wire.specs.Numbers.{number}
use Rattle.wire.specs.declared.order.ByteOrder.{ByteOrder}
use Rattle.wire.specs.declared.order.ByteOrder.TheVariants.{Little}
use Rattle.wire.specs.declared.refusal.Fault.{Fault}
use Rattle.wire.proofs.Digits.{number-again, number_below}
use Rattle.mappings.proofs.Joins.{err_not}
use Rattle.facts.specs.Written.{counted_bytes}
use Rattle.read_back.proofs.Law.{Law}
use Rattle.read_back.proofs.Numbers.{past_number, length_past}

-- What is read of some bytes, where n items are said to be: some of them may be skipped.
pub record Listed {V : Type 0} (print : V → List ℕ) (Fine : V → Type 0) (n : ℕ) (s : List ℕ) (vs : List V) : Type 0 where
  pub fine : length s ≤ 16777216 → All Fine vs
  pub count : length vs ≤ n
  pub short : length (flat_map print vs) ≤ length s

-- Items whose count fits.
abbrev pub Fines : {V : Type 0} → (V → Type 0) → List V → Type 0
Fines Fine vs = All Fine vs × (length vs < 2 ^ 32)

-- `items` reads so many items in the last bytes of a section of a given length, and `counted` a section by its count.
module _ {V : Type 0} (items : ByteOrder → ℕ → ℕ → List ℕ → Result (List V) Fault) (counted : ByteOrder → List ℕ → Option ℕ → Result (List V) Fault) (fault : Fault)
    (none : (o : ByteOrder) (s : List ℕ) → counted o s None ≡ Err fault)
    (some : (o : ByteOrder) (s : List ℕ) (n : ℕ) → counted o s (Some n) ≡ items o (length s) n (drop 4 s))
    (print : V → List ℕ) (Fine : V → Type 0)
    (listed : (o : ByteOrder) (total n : ℕ) (s : List ℕ) (vs : List V) → items o total n s ≡ Ok vs → Listed print Fine n s vs)
    (again : (total : ℕ) (vs : List V) → All Fine vs → items Little total (length vs) (flat_map print vs) ≡ Ok vs) where
  told : (o : ByteOrder) (s : List ℕ) (n : Option ℕ) (vs : List V) → number o 4 s ≡ n → counted o s n ≡ Ok vs → (length s ≤ 16777216 → Fines Fine vs) × (4 + length (flat_map print vs) ≤ length s)
  told o s None vs p e = err_not fault vs (sym (none o s) ∙ e)
  told o s (Some n) vs p e =
      let l = listed o (length s) n (drop 4 s) vs (sym (some o s n) ∙ e) in
      let h = number_below o 4 s n p in
      let d = length-drop 4 s in
      (λ b. (l.fine (omega arith), omega (arith, l.count, h.0)), omega (arith, l.short, h.1))

  pub counted_law : Law (λ o s. counted o s (number o 4 s)) (counted_bytes print) (Fines Fine)
  counted_law =
      record {
        fine = λ o s vs b e. (told o s (number o 4 s) vs refl e).0 b;
        again = λ vs f.
            let s = counted_bytes print vs in
            ap (counted Little s) (number-again 4 (length vs) (flat_map print vs) f.1)
            ∙ some Little s (length vs)
            ∙ ap (items Little (length s) (length vs)) (past_number 4 (length vs) (flat_map print vs))
            ∙ again (length s) vs f.0;
        short = λ o s vs b e. omega (arith, (told o s (number o 4 s) vs refl e).1, length_past 4 (length vs) (flat_map print vs));
      }
