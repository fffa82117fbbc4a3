-- `stages_wide::products::columns_4` meets its contract: the columns passed are stored as rows.
use lib.IntN.{pos}
use lib.ListN.{get_or}
use Rattle.transform_1d.specs.MatrixOf.{matrix_of}
use Rattle.transform_1d.specs.Rows.{Filled}
use Rattle.stages_wide.specs.Products.{matrix_value}
use Rattle.stages_wide.proofs.products.columns_4.Given as goal

abbrev pub invariant-loop-c : goal.invariant-loop-c
invariant-loop-c l = Filled 4 4 (matrix_value (matrix_of l.kind 4) 4 (λ i. get_or l.x i (pos 0)) 1 4 l.shift) l.c l.initial.out l.out
