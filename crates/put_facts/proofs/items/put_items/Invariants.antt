use Rattle.std.proofs.Common.{◌≡◌, ◌%◌, ◌^◌, length}
use Rattle.std.specs.List.{flat_map}
use Rattle.put.specs.Appends.{Appends}
use Rattle.put_facts.proofs.items.put_items.Given as goal

-- the items so far are put
abbrev pub invariant-loop-item : goal.invariant-loop-item
invariant-loop-item g l =
    Appends (flat_map g.T.Told.bytes l.yielded) l.initial.w l.w × (l.count ≡ length l.yielded % 2 ^ 32)
