-- `block_tool_work::copy_levels` meets its contract. The loop's invariant: the first i places hold their levels, and the others are as lent.
use Prim.Native.Nat.{◌≤◌}
use Rattle.integers.proofs.ListsLaws.{Stored}
use Rattle.block_tool_work.specs.Work.{at}
use Rattle.block_tool_work.proofs.copy_levels.Given as goal

abbrev pub invariant-loop-i : goal.invariant-loop-i
invariant-loop-i l = (l.i ≤ l.count) × Stored (at l.levels) l.initial.out l.i l.out
