-- One answer more of a verdict.
use Rattle.std.specs.Prelude.{ℕ, ◌+◌, ◌-◌, ◌^◌, min, Bool, cond}
use Rattle.replay.specs.declared.tally.Tally.{Tally}
use Rattle.replay.specs.declared.verdict.Verdict.{Verdict}
use Rattle.replay.specs.Alike.{is_equal, is_rows, is_memory, is_other}

-- One more where the test holds; at most what 64 bits hold.
abbrev pub more : Bool → ℕ → ℕ
more test n = cond test (min (n + 1) (2 ^ 64 - 1)) n

abbrev pub counted : Tally → Verdict → Tally
counted t v = record {
  equal = more (is_equal v) t.equal;
  too_few_rows = more (is_rows v) t.too_few_rows;
  too_much_memory = more (is_memory v) t.too_much_memory;
  others = more (is_other v) t.others;
}
