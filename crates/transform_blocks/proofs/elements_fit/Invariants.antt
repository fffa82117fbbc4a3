-- `transform_blocks::elements_fit` meets its contract. The loop's invariant: the elements before i fit 16 bits.
use Prim.Native.Nat.{◌≤◌}
use Rattle.integers.specs.Within.{Narrow}
use Rattle.transform_blocks.proofs.elements_fit.Given as goal

abbrev pub invariant-loop-i : goal.invariant-loop-i
invariant-loop-i l = (l.i ≤ l.len) × Narrow l.i l.xs
