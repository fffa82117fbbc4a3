-- `edit_blocks::spans::cell` meets its contract: the index of a row and a column.
use Prim.Native.Nat.{◌+◌, ◌*◌}
use lib.IntN.{pos}
use lib.ListN.{get_or}
use mir.Syntax.{w64}
use mir.Val.{SFits}
use Rattle.integers.proofs.MachineLaws.{round_trip}
use Rattle.h265.specs.Transform.{block_at}
use Rattle.edit_blocks.proofs.spans.cell.Goals as goal

pub returns : goal.returns
unfolding block_at
returns c =
    let a = c.args in
    let f : SFits w64 (get_or a.x.now (a.row * a.n + a.column) (pos 0)) = record { sfits = c.result-1.given } in
    round_trip f
