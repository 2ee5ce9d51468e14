-- Keys and values, pair after pair.
use Rattle.std.proofs.Common.{◌≡◌, ℕ, ◌+◌, ◌<◌, ◌≤◌, Bool, true, false, cond, List, [], ◌∷◌, length, drop, Some, None, Ok, Err, Option, Result, sym, refl, ap, ◌∙◌, subst, ⊎_elim, arith}
use Rattle.std.proofs.lemmas.List.{length-drop}
use Rattle.std.proofs.lemmas.Bool.{cases_lt, cond-true, cond-false}
use Rattle.wire.specs.Faults.{section_fault}
use Rattle.wire.specs.declared.refusal.Fault.{Fault}
use Rattle.text.specs.Pieces.{well_formed}
use Rattle.text.specs.Strings.{before_nul}
use Rattle.text.proofs.Headers.{nul_within}
use Rattle.table.specs.declared.row.Row.{Row}
use Rattle.mappings.specs.Tables.{before}
use Rattle.mappings.specs.MetaInfo.{Piece, checked, paired, first_pair, pair_row, pieces_from}
use Rattle.mappings.proofs.Pieces.{piece, pieces-past, next_piece}

-- ---- the pieces at an offset

module _ (s : List ℕ) (at : ℕ) (key : List ℕ) (here : at ≤ length s) (key-is : key ≡ before_nul (drop at s)) where
  one : pieces_from s at ≡ piece at key ∷ pieces_from s (at + length key + 1)
  one = next_piece s at here ∙ ap (λ k. piece at k ∷ pieces_from s (at + length k + 1)) (sym key-is)

  pub lone : length s < at + length key + 1 → pieces_from s at ≡ piece at key ∷ []
  lone h = one ∙ ap (λ t. piece at key ∷ t) (pieces-past s (at + length key + 1) h)

  pub two : (value : List ℕ) → at + length key + 1 ≤ length s → value ≡ before_nul (drop (at + length key + 1) s) → pieces_from s at ≡ piece at key ∷ piece (at + length key + 1) value ∷ pieces_from s (at + length key + 1 + length value + 1)
  two value h e =
      one ∙ ap (λ t. piece at key ∷ t)
      (next_piece s (at + length key + 1) h ∙ ap (λ v. piece (at + length key + 1) v ∷ pieces_from s (at + length key + 1 + length v + 1)) (sym e))

pub formed : {V : Type 0} (p : Piece) (more : Result V Fault) → true ≡ well_formed p.bytes → more ≡ checked p more
formed p more e = sym (cond-true (well_formed p.bytes) more _ (sym e))

pub unformed : {V : Type 0} (p : Piece) (more : Result V Fault) → false ≡ well_formed p.bytes → Err (section_fault 10 129 p.at) ≡ checked p more
unformed p more e = sym (cond-false (well_formed p.bytes) more _ (sym e))

-- ---- what the first pair says of all

none_some : {X V E : Type 0} (v : V) → ◌≡◌ {A = Result (Option V) E} (Ok None) (Ok (Some v)) → X
none_some v h = let z : ◌≡◌ {A = ℕ} 0 1 = cc in absurd (omega arith)

err_ok : {X V E : Type 0} (e : E) (v : V) → ◌≡◌ {A = Result V E} (Err e) (Ok v) → X
err_ok e v h = let z : ◌≡◌ {A = ℕ} 0 1 = cc in absurd (omega arith)

module _ {X : Type 0} (make : Piece → Piece → X) where
  none_by : (k v : Piece) (more : Result (List X) Fault) (a b : Bool) (x : X) → cond a (cond b (Ok (Some x)) (Err (section_fault 10 129 v.at))) (Err (section_fault 10 129 k.at)) ≡ Ok None → cond a (cond b more (Err (section_fault 10 129 v.at))) (Err (section_fault 10 129 k.at)) ≡ Ok []
  none_by k v more true true x h = none_some x (sym h)
  none_by k v more true false x h = err_ok _ None h
  none_by k v more false b x h = err_ok _ None h

  pub pairs-none : (ps : List Piece) → first_pair make ps ≡ Ok None → paired make ps ≡ Ok []
  pairs-none [] h = refl
  pairs-none (k ∷ []) h = refl
  pairs-none (k ∷ v ∷ ps) h = none_by k v _ (well_formed k.bytes) (well_formed v.bytes) (make k v) h

  fault_by : (k v : Piece) (more : Result (List X) Fault) (a b : Bool) (x : X) (f : Fault) → cond a (cond b (Ok (Some x)) (Err (section_fault 10 129 v.at))) (Err (section_fault 10 129 k.at)) ≡ Err f → cond a (cond b more (Err (section_fault 10 129 v.at))) (Err (section_fault 10 129 k.at)) ≡ Err f
  fault_by k v more true true x f h = err_ok f (Some x) (sym h)
  fault_by k v more true false x f h =
      let e : section_fault 10 129 v.at ≡ f = cc in ap Err e
  fault_by k v more false b x f h =
      let e : section_fault 10 129 k.at ≡ f = cc in ap Err e

  pub pairs-fault : (ps : List Piece) (f : Fault) → first_pair make ps ≡ Err f → paired make ps ≡ Err f
  pairs-fault [] f h = err_ok f None (sym h)
  pairs-fault (k ∷ []) f h = err_ok f None (sym h)
  pairs-fault (k ∷ v ∷ ps) f h = fault_by k v _ (well_formed k.bytes) (well_formed v.bytes) (make k v) f h

  -- a pair that is read, and then the others
  some_by : (k v : Piece) (more : Result (List X) Fault) (a b : Bool) (x y : X) → cond a (cond b (Ok (Some x)) (Err (section_fault 10 129 v.at))) (Err (section_fault 10 129 k.at)) ≡ Ok (Some y) → (x ≡ y) × (cond a (cond b (before x more) (Err (section_fault 10 129 v.at))) (Err (section_fault 10 129 k.at)) ≡ before x more)
  some_by k v more true true x y h = let e : x ≡ y = cc in (e, refl)
  some_by k v more true false x y h = err_ok _ (Some y) h
  some_by k v more false b x y h = err_ok _ (Some y) h

-- ---- the row of a pair

-- A row that was read lies within the section and further on, and the other pairs follow its value.
pub record Told (s : List ℕ) (at : ℕ) (row : Row) : Type 0 where
  pub further : at < row.value_at
  pub inside : row.value_at + row.value_len ≤ length s
  pub more : paired pair_row (pieces_from s at) ≡ before row (paired pair_row (pieces_from s (row.value_at + row.value_len + 1)))

module _ (s : List ℕ) (at : ℕ) (row : Row) (e : first_pair pair_row (pieces_from s at) ≡ Ok (Some row)) where
  told_pair : (key value : List ℕ) → at ≤ length s → key ≡ before_nul (drop at s) → at + length key + 1 ≤ length s → value ≡ before_nul (drop (at + length key + 1) s) → Told s at row
  told_pair key value here key-is there value-is =
      let from : ℕ = at + length key + 1 in
      let both = two s at key here key-is value there value-is in
      let told = some_by pair_row (piece at key) (piece from value) (paired pair_row (pieces_from s (from + length value + 1))) (well_formed key) (well_formed value) (pair_row (piece at key) (piece from value)) row
      (sym (ap (first_pair pair_row) both) ∙ e) in
      subst (Told s at) told.0
      (record {
        further = omega arith;
        inside = omega (arith, ap length value-is, nul_within (drop from s), length-drop from s);
        more = ap (paired pair_row) both ∙ told.1;
      })

  told_key : (key : List ℕ) → at ≤ length s → key ≡ before_nul (drop at s) → Told s at row
  told_key key here key-is = ⊎_elim
      (λ (h : length s < at + length key + 1). none_some row (sym (ap (first_pair pair_row) (lone s at key here key-is h)) ∙ e))
      (λ (h : at + length key + 1 ≤ length s). told_pair key (before_nul (drop (at + length key + 1) s)) here key-is h refl)
      (cases_lt (length s) (at + length key + 1))

  pub pair_told : Told s at row
  pair_told = ⊎_elim
      (λ (h : length s < at). none_some row (sym (ap (first_pair pair_row) (pieces-past s at h)) ∙ e))
      (λ (h : at ≤ length s). told_key (before_nul (drop at s)) h refl)
      (cases_lt (length s) at)
