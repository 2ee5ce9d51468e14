use Rattle.std.proofs.Common.{◌≡◌, ◌*◌, vec_items, drop}
use Rattle.hexadecimal.specs.Hex.{bytes_of}
use Rattle.hexadecimal.proofs.Pairs.{behind}
use Rattle.hexadecimal.proofs.decode.Given as goal

abbrev pub invariant-loop-high : goal.invariant-loop-high
invariant-loop-high l = behind (vec_items l.bytes) (bytes_of (drop (l.high-index * 2) l.text)) ≡ bytes_of l.text
