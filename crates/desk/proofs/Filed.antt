-- A filing, with the rows and work bytes that are lent for it.
use Rattle.std.proofs.Common.{◌≡◌, ℕ, min, List, length, take, Option, Some, None, refl, ap, ◌∙◌, arith}
use Rattle.std.proofs.lemmas.List.{length-take}
use Rattle.std.specs.Option.{unwrap_or}
use Rattle.table.specs.declared.row.Row.{Row}
use Rattle.wire.specs.declared.order.ByteOrder.{ByteOrder}
use Rattle.facts.specs.Head.{Sections, head_of}
use Rattle.facts.specs.Images.{head_in}
use Rattle.image.specs.Kinds.{any_image}
use Rattle.image.specs.Meaning.{means}
use Rattle.shelf.specs.Contents.{Contents}
use Rattle.shelf.specs.Calls.{head_for}
use Rattle.desk.specs.Calls.{rows_lent, work_lent, head_filed}
use Rattle.desk.specs.declared.request.Lent.{Lent}

-- what is lent where nothing is said
abbrev usual : Lent
usual = record { rows = 4096; work = 65536 }

rows_is : (o : Option Lent) → min (unwrap_or o usual).rows 65536 ≡ rows_lent o
rows_is None = omega arith
rows_is (Some l) = refl

work_is : (o : Option Lent) → min (unwrap_or o usual).work 65536 ≡ work_lent o
work_is None = omega arith
work_is (Some l) = refl

-- the head of the image's store is that of the filing
pub filed_is : (c : Contents) (o : Option Lent) (l : Lent) (image : List ℕ) (order : ByteOrder) (at : Sections) (rows work : ℕ) → l ≡ unwrap_or o usual → rows ≡ 65536 → work ≡ 65536 → means order at ≡ any_image image → head_for c (min l.work work) (head_of (min l.rows rows) order at) ≡ head_filed c o image
filed_is c o l image order at rows work e r w m =
    let lent : min l.rows rows ≡ rows_lent o = ap (λ n. min l.rows n) r ∙ (ap (λ (x : Lent). min x.rows 65536) e ∙ rows_is o) in
    let space : min l.work work ≡ work_lent o = ap (λ n. min l.work n) w ∙ (ap (λ (x : Lent). min x.work 65536) e ∙ work_is o) in
    ap (λ n. head_for c n (head_of (min l.rows rows) order at)) space
    ∙ (ap (λ n. head_for c (work_lent o) (head_of n order at)) lent
    ∙ ap (λ x. head_for c (work_lent o) (head_in (rows_lent o) x)) m)

-- the first of the rows and work bytes are as many as are lent and there are
first_is : {X : Type 0} (xs : List X) (n lent : ℕ) → n ≡ min lent (length xs) → length (take n xs) ≡ min lent (length xs)
first_is xs n lent e = omega (arith, length-take n xs, e)

pub lent_is : (c : Contents) (l : Lent) (order : ByteOrder) (at : Sections) (given space : ℕ) (rows : List Row) (work : List ℕ) → given ≡ min l.rows (length rows) → space ≡ min l.work (length work) → head_for c (length (take space work)) (head_of (length (take given rows)) order at) ≡ head_for c (min l.work (length work)) (head_of (min l.rows (length rows)) order at)
lent_is c l order at given space rows work g s =
    ap (λ n. head_for c n (head_of (length (take given rows)) order at)) (first_is work space l.work s)
    ∙ ap (λ n. head_for c (min l.work (length work)) (head_of n order at)) (first_is rows given l.rows g)
