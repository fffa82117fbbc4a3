-- `edit_tables::sums::down_columns` meets its contract: each number is the sum there.
use mathlib.Core.Path.{◌≡◌, ◌∙◌}
use Prim.Native.Nat.{◌+◌, ◌*◌}
use lib.IntN.{pos}
use lib.ListN.{get_or}
use Rattle.std.proofs.Common.{rules}
use Rattle.h265.specs.Transform.{block_at, transform_line}
use Rattle.edit_tables.proofs.TableLaws.{filled_holds, column_ask, one_cell}
use Rattle.edit_tables.proofs.sums.down_columns.Goals as goal

pub filled-requires : goal.filled-requires
filled-requires c = (c.requires.size, λ m d hm hd κs p e r f l. column_ask c.requires m d hm hd)

pub returns : goal.returns
returns c =
    let a = c.args in
    filled_holds c.filled.ensures
    (λ m j x hm hj p.
    let e : x ≡ transform_line (block_at a.n a.t.now) a.n (λ k. get_or a.d.now (j + k * a.n) (pos 0)) m = search rules in
    e ∙ one_cell a.n (block_at a.n a.t.now) a.d.now m j)
