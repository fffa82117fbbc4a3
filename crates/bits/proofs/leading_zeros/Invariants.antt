-- `bits::leading_zeros` meets its contract. The loop's invariant: no bit before the place reached is a one.
use Prim.Native.Nat.{◌+◌}
use lib.Dec.{eqb}
use Rattle.integers.proofs.SearchLaws.{None}
use Rattle.bits.specs.Bits.{bit_at}
use Rattle.bits.proofs.leading_zeros.Given as goal

abbrev pub invariant-loop-zeros : goal.invariant-loop-zeros
invariant-loop-zeros l = None (λ z. eqb (bit_at l.bytes (l.at + z)) 1) l.zeros
