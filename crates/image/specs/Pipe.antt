-- The pipe image: the mark, the u64 16, and then records.
use Rattle.std.specs.Prelude.{ℕ, cond, List, length, Some, None, Option, ◌==◌, nat_lt}
use Rattle.wire.specs.Faults.{image_fault}
use Rattle.wire.specs.Numbers.{number_at}
use Rattle.wire.specs.declared.order.ByteOrder.{ByteOrder}
use Rattle.image.specs.Mark.{mark_order}
use Rattle.image.specs.Meaning.{Meaning, faulty, sized_from}
use Rattle.image.specs.declared.run.Front.{Front}
use Rattle.image.specs.Run.{Reader, run_from, walked}

-- The size of a whole record, the u16 at 6 of it; the u32 at 0 is its type, and the u16 at 4 its misc.
abbrev pub record_size : ByteOrder → List ℕ → ℕ
record_size o s = number_at o 2 s 6

-- A record's size, and the feature that it carries, if any.
pub record Header : Type 0 where
  pub size : ℕ
  pub feature : Option ℕ

-- The record that some bytes begin with. None where it has fewer than its own eight bytes, or ends past the bytes.
-- A record of type 80 carries a feature section, whose number is the u64 at 8; none where it has no room for that.
abbrev pub header : ByteOrder → List ℕ → Option Header
header o s =
    cond (nat_lt (length s) 8) None
    (cond (nat_lt (record_size o s) 8) None
    (cond (nat_lt (length s) (record_size o s)) None
    (cond (number_at o 4 s 0 == 80)
    (cond (nat_lt (record_size o s) 16) None (Some (record { size = record_size o s; feature = Some (number_at o 8 s 8) })))
    (Some (record { size = record_size o s; feature = None })))))

-- The section is what follows the 16 bytes of the header and the number.
abbrev pub fronted : Option Header → Option Front
fronted None = None
fronted (Some h) = Some (record { feature = h.feature; skip = 16; size = h.size })

abbrev pub pipe_front : ByteOrder → Reader
pipe_front o low s = fronted (header o s)

abbrev pub pipe_marked : List ℕ → Option ByteOrder → Meaning
pipe_marked s None = faulty (image_fault 2 0)
pipe_marked s (Some o) =
    cond (number_at o 8 s 8 == 16) (walked 5 o (run_from (pipe_front o) 16 s)) (faulty (image_fault 2 0))

abbrev pub pipe_image : List ℕ → Meaning
pipe_image s = sized_from 16 s (pipe_marked s (mark_order s))
