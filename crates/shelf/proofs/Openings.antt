-- What a shelf with no group holds.
use Rattle.std.proofs.Common.{◌≡◌, ℕ, ◌-◌, ◌*◌, ◌/◌, ◌<◌, ◌≤◌, min, List, map, get_or, take, drop, replicate, sym, ap, ◌∙◌, ⊎_elim, mul-le-mul_right, div-mul-le_self, arith}
use Rattle.std.proofs.lemmas.List.FromFn.{length-map-range_with_len, get_or-map-range_with_len}
use Rattle.std.proofs.lemmas.List.{ext_get_or, get_or_past, get_or-replicate, length-replicate, take-replicate, drop-replicate}
use Rattle.std.proofs.lemmas.Bool.{cases_lt}
use Rattle.std.specs.List.{range_with_len}
use Rattle.shelf.specs.declared.shelf.Group.{Group}
use Rattle.shelf.specs.Rows.{Row, free, row_at, row_of, strip_at}
use Rattle.shelf.specs.Contents.{blank}
use Rattle.shelf.specs.Strips.{contents_of}
use Rattle.shelf.specs.Calls.{strips_in}
use Rattle.shelf.proofs.Places.{strip_end}

pub all_free : (n j : ℕ) → get_or (replicate n free) j free ≡ free
all_free n j =
    ⊎_elim (λ l. get_or-replicate n j free free l) (λ l. get_or_past (replicate n free) j free (omega (arith, length-replicate n free))) (cases_lt j n)

pub strips_fit : (room strip : ℕ) → strips_in room strip * strip ≤ room
strips_fit room strip =
    omega (arith, div-mul-le_self room strip, mul-le-mul_right {m = min (room / strip) 64} {n = room / strip} strip (omega arith))

-- all free, and every byte 0
pub emptied : (strip n next room : ℕ) (gs : List Group) → ((j : ℕ) → get_or gs j free ≡ free) → n * strip ≤ room → contents_of strip n next gs (replicate room 0) ≡ record { strip = strip; next = next; rows = replicate n (blank strip); tail = replicate (room - n * strip) 0 }
emptied strip n next room gs fr fits =
    ap (λ (rs : List Row). record { strip = strip; next = next; rows = rs; tail = drop (n * strip) (replicate room 0) })
    (ext_get_or (blank 0) (map (row_at strip gs (replicate room 0)) (range_with_len 0 n)) (replicate n (blank strip)) (length-map-range_with_len (row_at strip gs (replicate room 0)) 0 n ∙ sym (length-replicate n (blank strip))) (λ j l. row j (omega (arith, length-map-range_with_len (row_at strip gs (replicate room 0)) 0 n))))
    ∙ ap (λ (t : List ℕ). record { strip = strip; next = next; rows = replicate n (blank strip); tail = t }) (drop-replicate (n * strip) room 0)
  where
    wiped : (j : ℕ) → j < n → strip_at strip (replicate room 0) j ≡ replicate strip 0
    wiped j l = ap (take strip) (drop-replicate (j * strip) room 0) ∙ take-replicate strip (room - j * strip) 0 (omega (arith, strip_end j n strip l))

    row : (j : ℕ) → j < n → get_or (map (row_at strip gs (replicate room 0)) (range_with_len 0 n)) j (blank 0) ≡ get_or (replicate n (blank strip)) j (blank 0)
    row j l =
        get_or-map-range_with_len (row_at strip gs (replicate room 0)) 0 n j j (blank 0) l (omega arith)
        ∙ ap (λ (g : Group). row_of g (strip_at strip (replicate room 0) j)) (fr j)
        ∙ ap (row_of free) (wiped j l)
        ∙ sym (get_or-replicate n j (blank strip) (blank 0) l)
