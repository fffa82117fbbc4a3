-- `edit_tables::matrix::dst_matrix` meets its contract: each number is the entry there.
use mathlib.Core.Path.{◌≡◌, ◌∙◌}
use Prim.Native.Nat.{◌+◌, ◌*◌}
use lib.IntN.{pos}
use lib.ListN.{get_or}
use Rattle.std.proofs.Common.{rules}
use Rattle.edit_tables.proofs.TableLaws.{filled_holds}
use Rattle.transform_1d.proofs.PlaceLaws.{dst_entry}
use Rattle.edit_tables.proofs.matrix.dst_matrix.Goals as goal

pub returns : goal.returns
returns c = filled_holds c.filled.ensures
    (λ k j x hk hj p.
    let e : x ≡ get_or c.dst_matrix-t.result (4 * k + j) (pos 0) = search rules in
    e ∙ dst_entry k j c.dst_matrix-t.ensures hk hj)
