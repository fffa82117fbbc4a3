-- `edit_blocks::spans::target_cell` meets its contract: the index of a row and a column.
use mir.Syntax.{w64}
use borrow.Author.Rules.{sfits_of}
use mathlib.Core.Path.{◌∙◌}
use Prim.Native.Nat.{◌+◌, ◌*◌}
use lib.IntN.{pos}
use lib.ListN.{get_or}
use mir.Syntax.{w32}
use mir.Val.{SFits}
use Rattle.integers.proofs.MachineLaws.{round_trip}
use Rattle.integers.proofs.BoundLaws.{within_eq, within_sfits}
use Rattle.h265.specs.Transform.{block_at}
use Rattle.edit_blocks.proofs.spans.target_cell.Goals as goal

pub returns : goal.returns
unfolding block_at
returns c =
    let a = c.args in
    let f : SFits w32 (get_or a.x.now (a.row * a.n + a.column) (pos 0)) = record { sfits = c.from-arg-1.given } in
    let e = round_trip {w = w64} (sfits_of c.from.type_inv) ∙ c.from.ensures ∙ round_trip f in
    (e, within_eq e (within_sfits f))
