-- The rows of meta info point to the keys and the values.
use Rattle.std.proofs.Common.{◌≡◌, ℕ, suc, ◌+◌, Bool, true, false, cond, eqb, List, [], ◌∷◌, map, length, take, drop, Ok, Err, Result, sym, refl, ap, ◌∙◌, ⊎_elim, arith}
use Rattle.std.proofs.lemmas.List.{drop-drop}
use Rattle.std.proofs.lemmas.Bool.{cases_Bool}
use Rattle.wire.specs.Faults.{section_fault}
use Rattle.wire.specs.declared.refusal.Fault.{Fault}
use Rattle.text.specs.Pieces.{well_formed}
use Rattle.table.specs.Order.{texts}
use Rattle.table.specs.Rows.{part, key_part, entry_of}
use Rattle.table.specs.declared.row.Row.{Row}
use Rattle.mappings.specs.Tables.{before, table_by, with_value}
use Rattle.mappings.specs.MetaInfo.{Piece, longer, pieces, paired, pair_row, meta_rows, meta_table}
use Rattle.mappings.proofs.Tied.{table_tied}

module _ (s : List ℕ) where
  -- Each of some pieces stands in the section where it says, and the first begins at an offset.
  abbrev Parts : List Piece → Type 0
  Parts [] = Unit {0}
  Parts (p ∷ ps) = (part s p.at (length p.bytes) ≡ p.bytes) × Parts ps

  abbrev Begins : ℕ → List Piece → Type 0
  Begins at [] = Unit {0}
  Begins at (p ∷ ps) = p.at ≡ at

  longer_parts : (at b : ℕ) (bs : List ℕ) → b ∷ bs ≡ drop at s → bs ≡ drop (suc at) s → (ps : List Piece) → Parts ps → Begins (suc at) ps → Parts (longer at b ps) × Begins at (longer at b ps)
  longer_parts at b bs e q [] h g = (tt, tt)
  longer_parts at b bs e q (p ∷ ps) h g = (
    (
      ap (take (suc (length p.bytes))) (sym e)
          ∙ ap (λ (l : List ℕ). b ∷ l) (ap (take (length p.bytes)) q ∙ ap (λ n. part s n (length p.bytes)) (sym g) ∙ h.0),
      h.1,
    ),
    refl,
  )

  split_parts : (at : ℕ) (t : List ℕ) → t ≡ drop at s → Parts (pieces at t) × Begins at (pieces at t)
  unfolding pieces
  split_parts at [] e = ((refl, tt), refl)
  split_parts at (b ∷ bs) e =
      let n : at + 1 ≡ suc at = omega arith in
      let q : bs ≡ drop (suc at) s = ap (drop 1) e ∙ drop-drop 1 at s ∙ ap (λ k. drop k s) n in
      let more = split_parts (suc at) bs q in
      ⊎_elim
      (λ (z : eqb b 0 ≡ true). rw z ((refl, more.0), refl))
      (λ (z : eqb b 0 ≡ false). rw z (longer_parts at b bs e q (pieces (suc at) bs) more.0 more.1))
      (cases_Bool (eqb b 0))

  abbrev shows : Row → List ℕ × List ℕ
  shows = entry_of (key_part s) s

  abbrev pair_of : Piece → Piece → List ℕ × List ℕ
  pair_of key value = (key.bytes, value.bytes)

  before_tied : (row : Row) (x : List ℕ × List ℕ) (p : Result (List Row) Fault) → shows row ≡ x → with_value (map shows) (before row p) ≡ before x (with_value (map shows) p)
  before_tied row x (Ok rows) e = ap (λ y. Ok (y ∷ map shows rows)) e
  before_tied row x (Err f) e = refl

  pair_by : (k v : ℕ) (a b : Bool) (row : Row) (x : List ℕ × List ℕ) (p : Result (List Row) Fault) → shows row ≡ x → with_value (map shows) (cond a (cond b (before row p) (Err (section_fault 10 129 v))) (Err (section_fault 10 129 k))) ≡ cond a (cond b (before x (with_value (map shows) p)) (Err (section_fault 10 129 v))) (Err (section_fault 10 129 k))
  pair_by k v true true row x p e = before_tied row x p e
  pair_by k v true false row x p e = refl
  pair_by k v false b row x p e = refl

  pairs_tied : (ps : List Piece) → Parts ps → with_value (map shows) (paired pair_row ps) ≡ paired pair_of ps
  pairs_tied [] h = refl
  pairs_tied (k ∷ []) h = refl
  pairs_tied (k ∷ v ∷ ps) h =
      let a = well_formed k.bytes in
      let b = well_formed v.bytes in
      pair_by k.at v.at a b (pair_row k v) (pair_of k v) (paired pair_row ps) (λ i. (h.0 i, h.1.0 i))
      ∙ ap (λ p. cond a (cond b (before (pair_of k v) p) (Err (section_fault 10 129 v.at))) (Err (section_fault 10 129 k.at))) (pairs_tied ps h.1.1)

  -- The table of the rows stands for the table of the keys and values.
  pub info_tied : with_value (map (entry_of (key_part s) s)) (meta_rows s) ≡ meta_table s
  info_tied =
      table_tied texts (key_part s) shows (λ _. refl) (paired pair_row (pieces 0 s))
      ∙ ap (table_by texts (λ e. e.0)) (pairs_tied (pieces 0 s) (split_parts 0 s refl).0)
