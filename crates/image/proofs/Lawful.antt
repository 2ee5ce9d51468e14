-- Pipe images and head images keep the law of their offsets.
use Rattle.std.proofs.Common.{◌≡◌, ℕ, ◌≤◌, cond, eqb, ltb, List, length, Some, None, Option, refl, subst, arith}
use Rattle.std.proofs.lemmas.Bool.{cond_both, ltb-false}
use Rattle.wire.specs.Faults.{image_fault}
use Rattle.wire.specs.Numbers.{number_at}
use Rattle.wire.specs.declared.order.ByteOrder.{ByteOrder}
use Rattle.wire.specs.declared.order.ByteOrder.TheVariants.{Little}
use Rattle.image.specs.Head as head
use Rattle.image.specs.Head.{Entry, head_entry, head_front, head_marked, head_image}
use Rattle.image.specs.Laid.{PipeLaid, HeadLaid}
use Rattle.image.specs.Mark.{mark_order}
use Rattle.image.specs.Meaning.{Meaning, faulty, sized_from}
use Rattle.image.specs.Pipe as pipe
use Rattle.image.specs.Pipe.{Header, header, pipe_front, pipe_marked, pipe_image}
use Rattle.image.specs.declared.run.Front.{Front}
use Rattle.image.specs.Run.{run_from, walked}
use Rattle.image.proofs.Heads.{entry-sized}
use Rattle.image.proofs.Laid.{walked-laid}
use Rattle.image.proofs.Pipes.{header-sized}
use Rattle.image.proofs.Runs.{Sized, none_not}

-- what holds of a fault too many or too few bytes, and of the rest of a long enough image, holds of the image
sized-holds : (P : Meaning → Type 0) (least : ℕ) (s : List ℕ) (m : Meaning) → P (faulty (image_fault 3 0)) → P (faulty (image_fault 1 0)) → (least ≤ length s → P m) → P (sized_from least s m)
sized-holds P least s m long short f =
    cond_both (ltb 16777216 (length s)) (faulty (image_fault 3 0)) _ P (λ _. long) (λ _.
    cond_both (ltb (length s) least) (faulty (image_fault 1 0)) m P (λ _. short) (λ a. f (ltb-false (length s) least a)))

pipe_sized : (o : ByteOrder) (s : List ℕ) (f : Front) (r : Option Header) → header o s ≡ r → pipe.fronted r ≡ Some f → Sized s f
pipe_sized o s f None e q = none_not f q
pipe_sized o s f (Some h) e q = let z : record { feature = h.feature; skip = 16; size = h.size } ≡ f = cc in subst (Sized s) z (header-sized o s h e)

head-sized : (low : ℕ) (s : List ℕ) (f : Front) (r : Option Entry) → head_entry low s ≡ r → head.fronted r ≡ Some f → Sized s f
head-sized low s f None e q = none_not f q
head-sized low s f (Some h) e q = let z : record { feature = Some h.number; skip = 6; size = h.size } ≡ f = cc in subst (Sized s) z (entry-sized low s h e)

pipe-marked : (s : List ℕ) (r : Option ByteOrder) → mark_order s ≡ r → 16 ≤ length s → PipeLaid s (pipe_marked s r)
pipe-marked s None e l = λ z. absurd (omega arith)
pipe-marked s (Some o) e l =
    cond_both (eqb (number_at o 8 s 8) 16) (walked 5 o (run_from (pipe_front o) 16 s)) (faulty (image_fault 2 0)) (PipeLaid s)
    (λ _. walked-laid (pipe_front o) (λ low t f q. pipe_sized o t f (header o t) refl q) s (PipeLaid s) 5 o 16 l (λ sections x. (e, x)) (λ at x _. (o, e, x)))
    (λ _ z. absurd (omega arith))

pub pipe_laid : (s : List ℕ) → PipeLaid s (pipe_image s)
pipe_laid s =
    sized-holds (PipeLaid s) 16 s (pipe_marked s (mark_order s)) (λ z. absurd (omega arith)) (λ z. absurd (omega arith)) (pipe-marked s (mark_order s) refl)

pub head-laid : (s : List ℕ) → HeadLaid s (head_image s)
head-laid s =
    let body : Meaning = walked 17 Little (run_from head_front 5 s) in
    let two : Meaning = faulty (image_fault 2 0) in
    sized-holds (HeadLaid s) 5 s (cond (head_marked s) (cond (eqb (number_at Little 2 s 3) 1) body two) two) (λ z. absurd (omega arith)) (λ z. absurd (omega arith)) (λ l.
    cond_both (head_marked s) (cond (eqb (number_at Little 2 s 3) 1) body two) two (HeadLaid s)
    (λ _. cond_both (eqb (number_at Little 2 s 3) 1) body two (HeadLaid s)
    (λ _. walked-laid head_front (λ low t f q. head-sized low t f (head_entry low t) refl q) s (HeadLaid s) 17 Little 5 l (λ sections x. (refl, x)) (λ at x _. x))
    (λ _ z. absurd (omega arith)))
    (λ _ z. absurd (omega arith)))
