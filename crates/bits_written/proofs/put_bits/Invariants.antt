-- `bits_written::put_bits` meets its contract: the bits below n - i are left to write.
use Prim.Native.Nat.{◌+◌, ◌-◌}
use Rattle.text.proofs.WroteLaws.{Left}
use Rattle.bits_written.specs.Codes.{bits_of}
use Rattle.bits_written.proofs.put_bits.Given as goal

abbrev pub invariant-loop-i : goal.invariant-loop-i
invariant-loop-i l = Left l.initial.bits l.at (bits_of l.n l.v) l.bits (l.at + l.i) (bits_of (l.n - l.i) l.v)
