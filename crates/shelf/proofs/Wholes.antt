-- The bytes of a shelf are those of its rows, and those behind them.
use Rattle.std.proofs.Common.{◌≡◌, ℕ, zero, suc, ◌*◌, List, [], ◌++◌, map, get_or, take, drop, vec_items, sym, ap, ◌∙◌, suc-mul, add-one, arith, take-add}
use Rattle.std.proofs.lemmas.List.FromFn.{map-range_with_len_more}
use Rattle.std.proofs.lemmas.List.{flat_map_more, take-append-drop}
use Rattle.std.specs.List.{range_with_len, flat_map}
use Rattle.shelf.specs.declared.shelf.Group.{Group}
use Rattle.shelf.specs.Rows.{Row, free, row_at, row_of, strip_at}
use Rattle.shelf.specs.Strips.{EveryByte}

-- the bytes of one strip
row_joined : (g : Group) (b : List ℕ) → (row_of g b).head ++ (row_of g b).rest ≡ b
row_joined g b = take-append-drop g.len b

-- the strips of the first n places, one after the other
strips_joined : (strip : ℕ) (gs : List Group) (bytes : List ℕ) (n : ℕ) → flat_map (λ (r : Row). r.head ++ r.rest) (map (row_at strip gs bytes) (range_with_len 0 n)) ≡ take (n * strip) bytes
strips_joined strip gs bytes zero = let e : 0 ≡ 0 * strip = omega arith in ap (λ (k : ℕ). take k bytes) e
strips_joined strip gs bytes (suc n) =
    ap (λ (k : ℕ). flat_map (λ (r : Row). r.head ++ r.rest) (map (row_at strip gs bytes) (range_with_len 0 k))) (sym (add-one n))
    ∙ ap (flat_map (λ (r : Row). r.head ++ r.rest)) (map-range_with_len_more (row_at strip gs bytes) 0 n n (omega arith))
    ∙ sym (flat_map_more (λ (r : Row). r.head ++ r.rest) [] (map (row_at strip gs bytes) (range_with_len 0 n)) (row_at strip gs bytes n))
    ∙ ap (λ (b : List ℕ). b ++ (here.head ++ here.rest)) (strips_joined strip gs bytes n)
    ∙ ap (λ (b : List ℕ). take (n * strip) bytes ++ b) (row_joined (get_or gs n free) (strip_at strip bytes n))
    ∙ sym (take-add (n * strip) strip bytes)
    ∙ ap (λ (k : ℕ). take k bytes) (sym (suc-mul n strip))
  where
    here : Row
    here = row_at strip gs bytes n

pub every_byte : EveryByte
every_byte s =
    sym (take-append-drop (s.strips * s.strip) (vec_items s.bytes))
    ∙ ap (λ (b : List ℕ). b ++ drop (s.strips * s.strip) (vec_items s.bytes)) (sym (strips_joined s.strip s.groups (vec_items s.bytes) s.strips))
