-- `stages_wide::products::stage_4` meets its contract: the lines run over the limited values.
use native.Mathlib.Omega.{arith}
use Rattle.transform_1d.specs.MatrixOf.{matrix_of}
use Rattle.stages_wide.proofs.ProductsLaws.{limited_needs_products, filled-limited}
use Rattle.stages_wide.proofs.products.stage_4.Goals as goal

pub columns_4-requires : goal.columns_4-requires
columns_4-requires c =
    let k = c.args in
    let p = c.limit.ensures in (limited_needs_products k.range 16 16 k.s.now p c.requires p.long, c.requires.few, omega (arith, p.long))

pub returns : goal.returns
returns c = let k = c.args in filled-limited k.range 16 16 k.s.now c.limit.ensures (matrix_of k.kind 4) 4 1 4 k.shift c.columns_4.ensures
