-- `edit_tables::matrix::dct_matrix` meets its contract: each number is the entry there.
use mathlib.Core.Path.{◌≡◌, ◌∙◌}
use Prim.Native.Nat.{◌+◌, ◌*◌, ◌/◌}
use lib.IntN.{pos}
use lib.ListN.{get_or}
use Rattle.std.proofs.Common.{rules}
use Rattle.edit_tables.proofs.TableLaws.{filled_holds}
use Rattle.transform_1d.proofs.PlaceLaws.{table_entry}
use Rattle.edit_tables.proofs.matrix.dct_matrix.Goals as goal

pub returns : goal.returns
returns c = filled_holds c.filled.ensures
    (λ k j x hk hj p.
    let e : x ≡ get_or c.trans_matrix-t.result (k * (1024 / c.args.n) + j) (pos 0) = search rules in
    e ∙ table_entry c.args.n k j c.trans_matrix-t.ensures c.requires hk hj)
