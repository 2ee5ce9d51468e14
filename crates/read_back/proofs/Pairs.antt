-- The table of meta info is read again. In a head a NUL follows the last value too, so that one empty piece without a
-- partner stands at the end, which is not read.
use Rattle.std.proofs.Common.{◌≡◌, ℕ, suc, ◌+◌, ◌*◌, ◌≤◌, true, false, List, [], ◌∷◌, ◌++◌, length, drop, Ok, Result, sym, refl, ap, ◌∙◌, subst, ⊎_elim, arith}
use Rattle.std.specs.List.{flat_map, AllByRecursion as All}
use Rattle.std.proofs.lemmas.List.{append_assoc, length-append, drop_at}
use Rattle.std.proofs.lemmas.Bool.{cases_Bool}
use Rattle.wire.specs.declared.refusal.Fault.{Fault}
use Rattle.text.specs.Pieces.{well_formed}
use Rattle.text.specs.Strings.{before_nul}
use Rattle.text.proofs.Headers.{nul_ends}
use Rattle.table.specs.Order.{texts}
use Rattle.mappings.specs.Laws.{rejoined, Bare}
use Rattle.mappings.specs.MetaInfo.{Piece, pieces, checked, pair_then, paired, meta_pairs, meta_info}
use Rattle.mappings.specs.Tables.{before}
use Rattle.mappings.proofs.Joins.{err_not}
use Rattle.mappings.proofs.Pairs.{formed, unformed}
use Rattle.mappings.proofs.Pieces.{piece, split_more}
use Rattle.mappings.proofs.Splitting.{splits}
use Rattle.facts.specs.Laws.{ReadsBack}
use Rattle.facts.specs.Written.{ended, pair_bytes}
use Rattle.read_back.proofs.Law.{Law, formed_ok}
use Rattle.read_back.proofs.Tabled.{all_tabled, tabled_lighter, tabled_back}

abbrev Pair : Type 0
Pair = List ℕ × List ℕ

abbrev pair : Piece → Piece → Pair
pair key value = (key.bytes, value.bytes)

-- Both are well formed and have no NUL.
pub record FinePair (e : Pair) : Type 0 where
  pub key_formed : well_formed e.0 ≡ true
  pub key_bare : before_nul e.0 ≡ e.0
  pub value_formed : well_formed e.1 ≡ true
  pub value_bare : before_nul e.1 ≡ e.1

-- ---- what pairs that were read tell

checked_ok : {V : Type 0} (p : Piece) (more : Result V Fault) (v : V) → checked p more ≡ Ok v → (well_formed p.bytes ≡ true) × (more ≡ Ok v)
checked_ok p more v e = ⊎_elim
    (λ (t : well_formed p.bytes ≡ true). (t, formed p more (sym t) ∙ e))
    (λ (f : well_formed p.bytes ≡ false). err_not _ v (unformed p more (sym f) ∙ e))
    (cases_Bool (well_formed p.bytes))

before_ok : (x : Pair) (r : Result (List Pair) Fault) (vs : List Pair) → before x r ≡ Ok vs → (ws : List Pair) × (r ≡ Ok ws) × (x ∷ ws ≡ vs)
before_ok x = formed_ok (before x) (λ ws. x ∷ ws) (λ f. f) (λ ws. refl) (λ f. refl)

record First (key value : Piece) (more : Result (List Pair) Fault) (vs : List Pair) : Type 0 where
  key_formed : well_formed key.bytes ≡ true
  value_formed : well_formed value.bytes ≡ true
  others : List Pair
  more-is : more ≡ Ok others
  all_is : pair key value ∷ others ≡ vs

first : (key value : Piece) (more : Result (List Pair) Fault) (vs : List Pair) → pair_then pair key value more ≡ Ok vs → First key value more vs
first key value more vs e =
    let (k, e') = checked_ok key (checked value (before (pair key value) more)) vs e in
    let (v, e'') = checked_ok value (before (pair key value) more) vs e' in
    let (ws, p, q) = before_ok (pair key value) more vs e'' in
    record { key_formed = k; value_formed = v; others = ws; more-is = p; all_is = q }

fine_pairs : (ps : List Piece) (vs : List Pair) → Bare ps → paired pair ps ≡ Ok vs → All FinePair vs
fine_pairs [] vs b e = let q : [] ≡ vs = cc in subst (All FinePair) q tt
fine_pairs (key ∷ []) vs b e = let q : [] ≡ vs = cc in subst (All FinePair) q tt
fine_pairs (key ∷ value ∷ ps) vs b e =
    let f = first key value (paired pair ps) vs e in
    subst (All FinePair) f.all_is (
      record { key_formed = f.key_formed; key_bare = b.0; value_formed = f.value_formed; value_bare = b.1.0 },
      fine_pairs ps f.others b.1.1 f.more-is,
    )

length_pairs : (e : Pair) (es : List Pair) → length (flat_map pair_bytes (e ∷ es)) ≡ length e.0 + length e.1 + 2 + length (flat_map pair_bytes es)
length_pairs e es = omega (arith, length-append (pair_bytes e) (flat_map pair_bytes es), length-append (ended e.0) (ended e.1), length-append e.0 (0 ∷ []), length-append e.1 (0 ∷ []))

short-pairs : (ps : List Piece) (vs : List Pair) → paired pair ps ≡ Ok vs → length (flat_map pair_bytes vs) ≤ 2 * length (rejoined ps)
short-pairs [] vs e = let q : [] ≡ vs = cc in subst (λ (x : List Pair). length (flat_map pair_bytes x) ≤ 0) q (omega arith)
short-pairs (key ∷ []) vs e =
    let q : [] ≡ vs = cc in
    subst (λ (x : List Pair). length (flat_map pair_bytes x) ≤ 2 * length key.bytes) q (omega arith)
short-pairs (key ∷ value ∷ []) vs e =
    let f = first key value (Ok []) vs e in
    let q : [] ≡ f.others = let m = f.more-is in cc in
    omega (arith, ap (λ (x : List Pair). length (flat_map pair_bytes x)) f.all_is, ap (λ (x : List Pair). length (flat_map pair_bytes x)) q, length_pairs (pair key value) f.others, length-append key.bytes (0 ∷ value.bytes))
short-pairs (key ∷ value ∷ p ∷ ps) vs e =
    let f = first key value (paired pair (p ∷ ps)) vs e in
    let more = rejoined (p ∷ ps) in
    omega (arith, short-pairs (p ∷ ps) f.others f.more-is, ap (λ (x : List Pair). length (flat_map pair_bytes x)) f.all_is, length_pairs (pair key value) f.others, length-append key.bytes (0 ∷ (value.bytes ++ 0 ∷ more)), length-append value.bytes (0 ∷ more))

-- ---- pairs are read again

-- A text with no NUL, and the NUL that ends it, are the first piece.
pieces-ended : (at : ℕ) (t more : List ℕ) → before_nul t ≡ t → pieces at (t ++ 0 ∷ more) ≡ piece at t ∷ pieces (suc (at + length t)) more
pieces-ended at t more h =
    let s = t ++ 0 ∷ more in
    let e = nul_ends t more h in
    let past : drop (suc (length t)) s ≡ more =
    ap (drop (suc (length t))) (sym (append_assoc t (0 ∷ []) more)) ∙ drop_at (ended t) more (suc (length t)) (omega (arith, length-append t (0 ∷ []))) in
    split_more at s (omega (arith, ap length e, length-append t (0 ∷ more)))
    ∙ (λ i. piece at (e i) ∷ pieces (suc (at + length (e i))) (drop (suc (length (e i))) s))
    ∙ ap (λ x. piece at t ∷ pieces (suc (at + length t)) x) past

pair_first : (e : Pair) (more : List ℕ) → pair_bytes e ++ more ≡ e.0 ++ 0 ∷ (e.1 ++ 0 ∷ more)
pair_first e more = simp append_assoc

pairs-again : (at : ℕ) (vs : List Pair) → All FinePair vs → paired pair (pieces at (flat_map pair_bytes vs)) ≡ Ok vs
unfolding pieces
pairs-again at [] f = refl
pairs-again at (v ∷ vs) f =
    let more = flat_map pair_bytes vs in
    let next = suc (at + length v.0) in
    let last = suc (next + length v.1) in
    let key = piece at v.0 in
    let value = piece next v.1 in
    let split : pieces at (pair_bytes v ++ more) ≡ key ∷ value ∷ pieces last more =
    ap (pieces at) (pair_first v more) ∙ pieces-ended at v.0 (v.1 ++ 0 ∷ more) f.0.key_bare
    ∙ ap (λ t. key ∷ t) (pieces-ended next v.1 more f.0.value_bare) in
    ap (paired pair) split
    ∙ ap (pair_then pair key value) (pairs-again last vs f.1)
    ∙ sym (formed key (checked value (Ok (v ∷ vs))) (sym f.0.key_formed))
    ∙ sym (formed value (Ok (v ∷ vs)) (sym f.0.value_formed))

pairs_law : Law (λ o s. meta_pairs s) (flat_map pair_bytes) (All FinePair)
pairs_law =
    record {
      fine = λ o s vs b e. fine_pairs (pieces 0 s) vs (splits 0 s).0 e;
      again = pairs-again 0;
      short = λ o s vs b e. omega (arith, short-pairs (pieces 0 s) vs e, ap length (splits 0 s).1);
    }

abbrev key : Pair → List ℕ
key e = e.0

pub pairs_back : ReadsBack meta_info (flat_map pair_bytes)
pairs_back =
    tabled_back texts key (λ o s. meta_pairs s) (flat_map pair_bytes) (All FinePair) pairs_law (all_tabled texts key FinePair) (tabled_lighter texts key pair_bytes)
