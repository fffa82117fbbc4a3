-- `block_tool_work::modify::rotate_block` meets its contract. The loop's invariant: the first i and the last i of 16 elements are exchanged, and the others are as lent.
use Prim.Native.Nat.{◌≤◌}
use Rattle.block_tool_work.proofs.RotationLaws.{Turned}
use Rattle.block_tool_work.proofs.modify.rotate_block.Given as goal

abbrev pub invariant-loop-i : goal.invariant-loop-i
invariant-loop-i l = Turned l.i l.initial.out l.out × (l.i ≤ 8)
