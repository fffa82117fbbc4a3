-- `block_tool_work::modify::rotate_block` meets its contract. The loop's invariant: the first i and the last i of 16 elements are exchanged, and the others are as lent.
use Prim.Native.Nat.{ℕ}
use mathlib.Core.Path.{subst}
use native.Mathlib.Omega.{arith}
use Rattle.block_tool_work.proofs.RotationLaws.{Turned, turned_none, turned_more, turned_all}
use Rattle.block_tool_work.proofs.modify.rotate_block.Goals as goal

pub loop-i-init : goal.loop-i-init
loop-i-init c = (turned_none, omega arith)

pub loop-i-preserved : goal.loop-i-preserved
loop-i-preserved c = (turned_more c.loop-i.invariant.0 c.loop-i-test.true c.swap.ensures.len c.swap.ensures.by_index, omega (arith, c.loop-i-test.true))

pub returns : goal.returns
returns c = turned_all (subst (λ (k : ℕ). Turned k c.args.out.now c.loop-i.out) (omega arith) c.loop-i.invariant.0) c.requires
