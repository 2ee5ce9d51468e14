use Rattle.std.proofs.Common.{◌≡◌, ℕ, ◌-◌, ◌<◌, ◌≤◌, false}
use Rattle.image.specs.File.{is_set}
use Rattle.image.proofs.file.Layout.next_set.Given as goal

abbrev pub invariant-loop-n : goal.invariant-loop-n
invariant-loop-n l = (l.from ≤ l.n) × (l.n ≤ 256) × ((k : ℕ) → l.from ≤ k → k < l.n → is_set l.self.order l.self.image.now k ≡ false)

abbrev pub decreases-loop-n : goal.decreases-loop-n
decreases-loop-n l = 256 - l.n
