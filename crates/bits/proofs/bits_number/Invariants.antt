-- `bits::bits_number` meets its contract. The loop's invariant: the number of the first i bits.
use mathlib.Core.Path.{◌≡◌}
use Rattle.bits.specs.Bits.{bits_number}
use Rattle.bits.proofs.bits_number.Given as goal

abbrev pub invariant-loop-i : goal.invariant-loop-i
invariant-loop-i l = l.number ≡ bits_number l.bytes l.at l.i
