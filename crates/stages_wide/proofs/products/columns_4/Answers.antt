-- `stages_wide::products::columns_4` meets its contract: the columns passed are stored as rows.
use Prim.Native.Nat.{◌+◌}
use native.Mathlib.Omega.{arith}
use lib.IntN.{pos}
use lib.ListN.{get_or}
use mir.Syntax.{w32}
use mir.Val.{SFits}
use mir.Facts.{to_z-of_z}
use Rattle.transform_1d.proofs.RowsLaws.{filled-all}
use Rattle.stages_wide.proofs.ProductsLaws.{picked_four, filled_products}
use Rattle.stages_wide.proofs.products.columns_4.Goals as goal
use Rattle.stages_wide.proofs.products.columns_4.Goals.{After-v-in-loop-c-3-1}

module _ (c : After-v-in-loop-c-3-1) where
  fits_0 : SFits w32 (get_or c.args.x.now c.loop-c.c (pos 0))
  fits_0 = record { sfits = c.v-1.given }

  fits_1 : SFits w32 (get_or c.args.x.now (c.loop-c.c + 4) (pos 0))
  fits_1 = record { sfits = c.v-in-loop-c-1.given }

  fits_2 : SFits w32 (get_or c.args.x.now (c.loop-c.c + 8) (pos 0))
  fits_2 = record { sfits = c.v-in-loop-c-2-1.given }

  fits_3 : SFits w32 (get_or c.args.x.now (c.loop-c.c + 12) (pos 0))
  fits_3 = record { sfits = c.v-in-loop-c-3-1.given }

pub loop-c-preserved : goal.loop-c-preserved
loop-c-preserved c =
    filled_products c.args.x.now 1 4 c.args.shift (picked_four c.args.x.now c.loop-c.c) (simp (to_z-of_z, fits_0 (goal.at.loop-c-preserved c).After-v-in-loop-c-3-1, fits_1 (goal.at.loop-c-preserved c).After-v-in-loop-c-3-1, fits_2 (goal.at.loop-c-preserved c).After-v-in-loop-c-3-1, fits_3 (goal.at.loop-c-preserved c).After-v-in-loop-c-3-1) at c.line_4-z.ensures) c.loop-c.invariant c.put_rounded.ensures

pub returns : goal.returns
returns c = filled-all _ (omega arith) c.loop-c.invariant
