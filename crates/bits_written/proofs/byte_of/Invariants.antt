-- `bits_written::byte_of` meets its contract. The loop's invariant: the number of the bits so far.
use mathlib.Core.Path.{◌≡◌}
use Prim.Native.Nat.{◌*◌}
use Rattle.bits_written.specs.Bytes.{bits_value}
use Rattle.bits_written.proofs.byte_of.Given as goal

abbrev pub invariant-loop-bit : goal.invariant-loop-bit
invariant-loop-bit l = l.byte ≡ bits_value l.bits (8 * l.k) l.bit-index
