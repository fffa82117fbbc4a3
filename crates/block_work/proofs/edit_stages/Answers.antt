-- `block_work::edit_stages` meets its contract: the value is set, its column computed anew, and stage two reads what that left.
use mathlib.Core.Path.{◌≡◌, ap, ◌∙◌}
use mathlib.Core.List.{List}
use Prim.Native.Nat.{◌+◌, ◌*◌}
use lib.IntN.{ℤ}
use lib.ListN.{set}
use mir.Facts.{to_z-of_z}
use mir.Syntax.{w32}
use mir.Val.{to_z, of_z}
use Rattle.integers.specs.Lists.{overwrite}
use Rattle.h265.specs.Transform.{row_order}
use Rattle.stages_wide.specs.Wide.{column_replaced}
use Rattle.block_rules.specs.Edit.{intermediate_of, residual_of, edited_buffers}
use Rattle.block_work.proofs.edit_stages.Goals as goal
use Rattle.block_work.proofs.edit_stages.Goals.{Start}

pub returns : goal.returns
unfolding edited_buffers intermediate_of residual_of
returns c =
    let called = c.column_and_residual in
    let s = c in
    let n = s.args.n in
    let z : to_z w32 (of_z w32 s.args.value) ≡ s.args.value = to_z-of_z s.ranges.value in
    let e = called.ensures.0
    ∙ ap (λ (v : ℤ). column_replaced n s.args.column (λ m. intermediate_of s.args.kind n s.args.range (set s.args.coeff.now (s.args.row * n + s.args.column) v) m s.args.column) s.args.inter.now) z in (
      ap (set s.args.coeff.now (s.args.row * n + s.args.column)) z,
      record {
        inter = e;
        res = called.ensures.1
            ∙ ap (λ (g : List ℤ). overwrite (n * n) (row_order n (residual_of s.args.kind n s.args.bit_depth s.args.range g)) s.args.residual.now) e;
      },
    )
