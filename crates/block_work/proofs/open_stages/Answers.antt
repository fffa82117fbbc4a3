-- `block_work::open_stages` meets its contract: stage one over the lent coefficients, and stage two over what stage one wrote.
use mathlib.Core.Path.{ap, ◌∙◌}
use mathlib.Core.List.{List}
use Prim.Native.Nat.{◌*◌}
use lib.IntN.{ℤ}
use Rattle.integers.specs.Lists.{overwrite}
use Rattle.h265.specs.Transform.{row_order}
use Rattle.block_rules.specs.Edit.{intermediate_of, residual_of, opened_buffers}
use Rattle.block_work.proofs.open_stages.Goals as goal

pub returns : goal.returns
unfolding opened_buffers intermediate_of residual_of
returns c =
    let s = c in
    let e = c.intermediate_of.ensures in
    record {
      inter = e;
      res = c.residual_of.ensures
          ∙ ap (λ (g : List ℤ). overwrite (s.args.n * s.args.n) (row_order s.args.n (residual_of s.args.kind s.args.n s.args.bit_depth s.args.range g)) s.args.residual.now) e;
    }
