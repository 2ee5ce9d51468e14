-- What is read of symbol tables is written in no more bytes than it was read from, but for a tail that was left out.
use Rattle.std.proofs.Common.{◌≡◌, ℕ, zero, suc, ◌+◌, ◌≤◌, Bool, true, false, cond, eqb, ltb, ◌≢◌, List, [], ◌∷◌, ◌++◌, length, drop, Some, None, Ok, Err, Option, Result, refl, ap, arith}
use Rattle.std.specs.List.{flat_map}
use Rattle.std.proofs.lemmas.List.{length-append, length-drop}
use Rattle.std.proofs.lemmas.Bool.{eqb-false}
use Rattle.wire.specs.Numbers.{number}
use Rattle.wire.specs.declared.order.ByteOrder.{ByteOrder}
use Rattle.wire.specs.declared.refusal.Fault.{Fault}
use Rattle.text.specs.Pieces.{well_formed}
use Rattle.text.specs.Strings.{before_nul}
use Rattle.text.proofs.Headers.{nul_within}
use Rattle.simpleperf.specs.Parse.{Got, got, and_then, read_number, number_or, items}
use Rattle.simpleperf.specs.Tables.{fault_at, u32_in, u64_in, text_in, type_in, count_in, counted, Symbol, symbol_in, Info, dex_file, elf_file, kernel_module, u64_or_none, info_in, File, file_in}
use Rattle.simpleperf.proofs.Items.{not_ok}
use Rattle.wire.proofs.Digits.{number_below}
use Rattle.put.proofs.Chains.{bytes-long}
use Rattle.facts.specs.Written.{u32, u64, ended, counted_bytes, symbol_bytes, info_bytes, file_bytes}

-- the first of two readings, and the second
pub then_ok : {V W : Type 0} (r : Result (Got V) Fault) (k : V → List ℕ → Result (Got W) Fault) (g : Got W) → and_then r k ≡ Ok g → (h : Got V) × (r ≡ Ok h) × (k h.value h.rest ≡ Ok g)
then_ok (Ok h) k g e = (h, refl, e)
then_ok (Err f) k g e = not_ok f g e

-- what is got is what was given
pub got-is : {V : Type 0} (v : V) (s : List ℕ) (g : Got V) → got v s ≡ Ok g → (v ≡ g.value) × (s ≡ g.rest)
got-is v s g e = let q : record { value = v; rest = s } ≡ g = cc in (ap (λ x. x.value) q, ap (λ x. x.rest) q)

-- a test that was passed
pub tested : {V : Type 0} (b : Bool) (f : Fault) (r : Result (Got V) Fault) (g : Got V) → cond b (Err f) r ≡ Ok g → (b ≡ false) × (r ≡ Ok g)
tested true f r g e = not_ok f g e
tested false f r g e = (refl, e)

passed : {V : Type 0} (b : Bool) (f : Fault) (r : Result (Got V) Fault) (g : Got V) → cond b r (Err f) ≡ Ok g → r ≡ Ok g
passed true f r g e = e
passed false f r g e = not_ok f g e

number_by : (short : Fault) (o : ByteOrder) (w : ℕ) (s : List ℕ) (x : Option ℕ) (g : Got ℕ) → number o w s ≡ x → read_number short w s x ≡ Ok g → w + length g.rest ≤ length s
number_by short o w s None g e h = not_ok short g h
number_by short o w s (Some n) g e h =
    omega (arith, (number_below o w s n e).1, length-drop w s, ap length (got-is n (drop w s) g h).1)

pub number_cost : (short : Fault) (o : ByteOrder) (w : ℕ) (s : List ℕ) (g : Got ℕ) → number_or short o w s ≡ Ok g → w + length g.rest ≤ length s
number_cost short o w s g h = number_by short o w s (number o w s) g refl h

abbrev Costs : {V : Type 0} → (List ℕ → Result (Got V) Fault) → (V → List ℕ) → Type 0
Costs {V} parse bytes = (s : List ℕ) (g : Got V) → parse s ≡ Ok g → length (bytes g.value) + length g.rest ≤ length s

text_cost : (size : ℕ) → Costs (text_in size) ended
text_cost size s g h =
    let t = before_nul s in
    let nul = tested (eqb (length t) (length s)) (fault_at 15 size s) (cond (well_formed t) (got t (drop (length t + 1) s)) (Err (fault_at 10 size s))) g h in
    let is = got-is t (drop (length t + 1) s) g (passed (well_formed t) (fault_at 10 size s) (got t (drop (length t + 1) s)) g nul.1) in
    let less : length t ≢ length s = eqb-false (length t) (length s) nul.0 in
    omega (arith, nul_within s, length-drop (length t + 1) s, length-append g.value (0 ∷ []), ap length is.0, ap length is.1)

u64_cost : (o : ByteOrder) (size : ℕ) → Costs (u64_in o size) u64
u64_cost o size s g h = omega (arith, number_cost (fault_at 11 size s) o 8 s g h, bytes-long 8 g.value)

type_cost : (o : ByteOrder) (size : ℕ) → Costs (type_in o size) u32
type_cost o size s g h =
    let one = then_ok (u32_in o size s) (λ type t. cond (ltb 5 type) (Err (fault_at 13 size s)) (got type t)) g h in
    let is = got-is one.0.value one.0.rest g (tested (ltb 5 one.0.value) (fault_at 13 size s) (got one.0.value one.0.rest) g one.2).1 in
    omega (arith, number_cost (fault_at 11 size s) o 4 s one.0 one.1, bytes-long 4 g.value, ap length is.1)

count_cost : (o : ByteOrder) (size : ℕ) (s : List ℕ) (g : Got ℕ) → count_in o size s ≡ Ok g → 4 + length g.rest ≤ length s
count_cost o size s g h =
    let one = then_ok (u32_in o size s) (λ n t. cond (ltb (length t) n) (Err (fault_at 14 size s)) (got n t)) g h in
    let is = got-is one.0.value one.0.rest g (tested (ltb (length one.0.rest) one.0.value) (fault_at 14 size s) (got one.0.value one.0.rest) g one.2).1 in
    omega (arith, number_cost (fault_at 11 size s) o 4 s one.0 one.1, ap length is.1)

module _ {V : Type 0} (item : List ℕ → Result (Got V) Fault) (bytes : V → List ℕ) (cost : Costs item bytes) where
  items_cost : (n : ℕ) → Costs (items item n) (flat_map bytes)
  unfolding items
  items_cost zero s g h = let is = got-is [] s g h in omega (arith, ap (λ vs. length (flat_map bytes vs)) is.0, ap length is.1)
  items_cost (suc n) s g h =
      let one = then_ok (item s) (λ v t. and_then (items item n t) (λ vs u. got (v ∷ vs) u)) g h in
      let v = one.0.value in
      let more = then_ok (items item n one.0.rest) (λ vs u. got (v ∷ vs) u) g one.2 in
      let vs = more.0.value in
      let is = got-is (v ∷ vs) more.0.rest g more.2 in
      omega (
        arith,
        cost s one.0 one.1,
        items_cost n one.0.rest more.0 more.1,
        length-append (bytes v) (flat_map bytes vs),
        ap (λ ws. length (flat_map bytes ws)) is.0,
        ap length is.1,
      )

counted_cost : {V : Type 0} (item : ByteOrder → ℕ → List ℕ → Result (Got V) Fault) (bytes : V → List ℕ) (o : ByteOrder) (size : ℕ) → Costs (item o size) bytes → Costs (counted item o size) (counted_bytes bytes)
counted_cost item bytes o size cost s g h =
    let one = then_ok (count_in o size s) (items (item o size)) g h in
    let vs = g.value in
    omega (
      arith,
      count_cost o size s one.0 one.1,
      items_cost (item o size) bytes cost one.0.value one.0.rest g one.2,
      bytes-long 4 (length vs),
      length-append (u32 (length vs)) (flat_map bytes vs),
    )

symbol_cost : (o : ByteOrder) (size : ℕ) → Costs (symbol_in o size) symbol_bytes
symbol_cost o size s g h =
    let one = then_ok (u64_in o size s) _ g h in
    let two = then_ok (u32_in o size one.0.rest) _ g one.2 in
    let three = then_ok (text_in size two.0.rest) _ g two.2 in
    let made : Symbol = record { address = one.0.value; long = two.0.value; name = three.0.value } in
    let is = got-is made three.0.rest g three.2 in
    omega (
      arith,
      u64_cost o size s one.0 one.1,
      number_cost (fault_at 11 size one.0.rest) o 4 one.0.rest two.0 two.1,
      text_cost size two.0.rest three.0 three.1,
      bytes-long 8 one.0.value,
      bytes-long 4 two.0.value,
      length-append (u64 one.0.value) (u32 two.0.value ++ ended three.0.value),
      length-append (u32 two.0.value) (ended three.0.value),
      ap (λ v. length (symbol_bytes v)) is.0,
      ap length is.1,
    )

-- of two ways
either : {V P : Type 0} (b : Bool) (x y : Result (Got V) Fault) (g : Got V) → (x ≡ Ok g → P) → (y ≡ Ok g → P) → cond b x y ≡ Ok g → P
either true x y g p q e = p e
either false x y g p q e = q e

last_cost : (o : ByteOrder) (size : ℕ) (s : List ℕ) (g : Got ℕ) → u64_or_none o size s ≡ Ok g → length g.rest ≤ length s
last_cost o size [] g h = let is = got-is _ [] g h in omega (arith, ap length is.1)
last_cost o size (b ∷ s) g h = omega (arith, number_cost (fault_at 11 size (b ∷ s)) o 8 (b ∷ s) g h)

-- the tail, which may have been left out
info-cost : (o : ByteOrder) (size type : ℕ) (s : List ℕ) (g : Got (Option Info)) → info_in o size type s ≡ Ok g → length (info_bytes g.value) + length g.rest ≤ length s + 8
info-cost o size type s g =
    either (eqb type 3) _ _ g
    (λ h.
    let one = then_ok (counted u64_in o size s) _ g h in
    let is = got-is (Some (dex_file one.0.value)) one.0.rest g one.2 in
    omega (arith, counted_cost u64_in u64 o size (u64_cost o size) s one.0 one.1, ap (λ i. length (info_bytes i)) is.0, ap length is.1))
    (either (eqb type 2) _ _ g
    (λ h.
    let one = then_ok (u64_or_none o size s) _ g h in
    let is = got-is (Some (elf_file one.0.value)) one.0.rest g one.2 in
    omega (arith, last_cost o size s one.0 one.1, bytes-long 8 one.0.value, ap (λ i. length (info_bytes i)) is.0, ap length is.1))
    (either (eqb type 1) _ _ g
    (λ h.
    let one = then_ok (u64_or_none o size s) _ g h in
    let is = got-is (Some (kernel_module one.0.value)) one.0.rest g one.2 in
    omega (arith, last_cost o size s one.0 one.1, bytes-long 8 one.0.value, ap (λ i. length (info_bytes i)) is.0, ap length is.1))
    (λ h. let is = got-is None s g h in omega (arith, ap (λ i. length (info_bytes i)) is.0, ap length is.1))))

pub file_cost : (o : ByteOrder) (size : ℕ) (s : List ℕ) (g : Got File) → file_in o size s ≡ Ok g → length (file_bytes g.value) ≤ length s + 8
file_cost o size s g h =
    let path = then_ok (text_in size s) _ g h in
    let type = then_ok (type_in o size path.0.rest) _ g path.2 in
    let lowest = then_ok (u64_in o size type.0.rest) _ g type.2 in
    let symbols = then_ok (counted symbol_in o size lowest.0.rest) _ g lowest.2 in
    let info = then_ok (info_in o size type.0.value symbols.0.rest) _ g symbols.2 in
    let made : File = record { path = path.0.value; type = type.0.value; lowest = lowest.0.value; symbols = symbols.0.value; info = info.0.value } in
    let is = got-is made info.0.rest g info.2 in
    let four = counted_bytes symbol_bytes symbols.0.value ++ info_bytes info.0.value in
    let three = u64 lowest.0.value ++ four in
    let two = u32 type.0.value ++ three in
    omega (
      arith,
      text_cost size s path.0 path.1,
      type_cost o size path.0.rest type.0 type.1,
      u64_cost o size type.0.rest lowest.0 lowest.1,
      counted_cost symbol_in symbol_bytes o size (symbol_cost o size) lowest.0.rest symbols.0 symbols.1,
      info-cost o size type.0.value symbols.0.rest info.0 info.1,
      length-append (ended path.0.value) two,
      length-append (u32 type.0.value) three,
      length-append (u64 lowest.0.value) four,
      length-append (counted_bytes symbol_bytes symbols.0.value) (info_bytes info.0.value),
      ap (λ f. length (file_bytes f)) is.0,
    )
