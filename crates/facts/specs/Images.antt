-- The head of an image.
use Rattle.std.specs.Prelude.{ℕ, cond, List, length, Err, Result, nat_lt}
use Rattle.wire.specs.Faults.{image_fault}
use Rattle.wire.specs.declared.refusal.Fault.{Fault}
use Rattle.image.specs.Kinds.{any_image}
use Rattle.image.specs.Meaning.{Meaning, faulty, means}
use Rattle.facts.specs.Head.{head_of}

-- An image of at most so many bytes, of the kind that its first bytes tell.
abbrev pub image_within : ℕ → List ℕ → Meaning
image_within most s = cond (nat_lt most (length s)) (faulty (image_fault 3 0)) (any_image s)

-- The fault of an image, or the head of the store that it is, made with n rows.
abbrev pub head_in : ℕ → Meaning → Result (List ℕ) Fault
head_in n (faulty f) = Err f
head_in n (means o sections) = head_of n o sections
