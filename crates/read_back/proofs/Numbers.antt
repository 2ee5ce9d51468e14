-- A number at the front of some bytes, as a head has it.
use Rattle.std.proofs.Common.{◌≡◌, ℕ, ◌+◌, ◌^◌, ◌<◌, List, [], ◌++◌, length, drop, Some, sym, ap, ◌∙◌, arith}
use Rattle.std.proofs.lemmas.List.{append-nil, length-append, drop_at}
use Rattle.wire.specs.Numbers.{number, bytes_of}
use Rattle.wire.specs.declared.order.ByteOrder.TheVariants.{Little}
use Rattle.wire.proofs.Digits.{length-bytes_of, number-again}

module _ (w n : ℕ) where
  pub past_number : (t : List ℕ) → drop w (bytes_of Little w n ++ t) ≡ t
  past_number t = drop_at (bytes_of Little w n) t w (length-bytes_of w n)

  pub length_past : (t : List ℕ) → length (bytes_of Little w n ++ t) ≡ w + length t
  length_past t = omega (arith, length-append (bytes_of Little w n) t, length-bytes_of w n)

  pub number-alone : n < 256 ^ w → number Little w (bytes_of Little w n) ≡ Some n
  number-alone h = ap (number Little w) (sym (append-nil (bytes_of Little w n))) ∙ number-again w n [] h
