-- `block_tool_work::modify::accumulate_block` meets its contract: by the loop of the kind, and a block that is not accumulated holds its samples.
use mathlib.Core.Path.{sym}
use Prim.Native.Nat.{◌*◌}
use Rattle.block_tool_work.proofs.RotationLaws.{overwrite_self}
use Rattle.block_tool_work.proofs.modify.accumulate_block.Goals as goal

pub returns-in-Off : goal.returns-in-Off
returns-in-Off c =
    let a = c.args in
    let xs = a.out.now in
    rw c.in-Off.is (sym (overwrite_self (a.n * a.n) xs c.requires.1))
