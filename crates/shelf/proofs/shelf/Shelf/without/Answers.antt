use Rattle.std.proofs.Common.{refl, arith}
use Rattle.shelf.proofs.Openings.{all_free}
use Rattle.shelf.proofs.shelf.Shelf.without.Goals as goal

pub invariant_of-result : goal.invariant_of-result
invariant_of-result c = record { places = refl; few = omega arith; room = omega arith; fits = λ j. rw (all_free 64 j) (omega arith); next = omega arith }
