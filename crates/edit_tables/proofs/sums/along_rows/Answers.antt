-- `edit_tables::sums::along_rows` meets its contract: each number is the sum there.
use native.Mathlib.Omega.{arith}
use mathlib.Core.Path.{◌≡◌, ◌∙◌}
use Prim.Native.Nat.{◌+◌, ◌*◌}
use lib.IntN.{pos}
use lib.ListN.{get_or}
use Rattle.std.proofs.Common.{rules}
use Rattle.h265.proofs.RangeLaws.{size_bound}
use Rattle.h265.specs.Transform.{block_at, transform_line}
use Rattle.edit_tables.proofs.TableLaws.{filled_holds, row_ask, two_cell, place}
use Rattle.edit_tables.proofs.sums.along_rows.Goals as goal

pub filled-requires : goal.filled-requires
filled-requires c = (
  c.requires.size,
  λ m j hm hj. (
    λ κs p e r f. record { fits = omega (arith, place c.args.n m j ((size_bound c.args.n c.requires.size).1, hm, hj)) },
    λ κs p e r f l. row_ask c.requires m j hm hj,
  ),
)

pub returns : goal.returns
returns c =
    let a = c.args in
    filled_holds c.filled.ensures
    (λ m j x hm hj p.
    let e : x ≡ transform_line (block_at a.n a.t.now) a.n (λ k. get_or a.g.now (m * a.n + k * 1) (pos 0)) j = search rules in
    e ∙ two_cell a.n (block_at a.n a.t.now) a.g.now m j)
