-- `stages_wide::sizes::column_8` meets its contract: one line over the column's limited values, rounded, limited and put in its place.
use Rattle.h265.specs.Matrix.{trans_matrix}
use Rattle.stages_wide.proofs.ProductsLaws.{column_values, put_line}
use Rattle.stages_wide.proofs.sizes.column_8.Goals as goal

pub line_8-z-requires : goal.line_8-z-requires
line_8-z-requires c = let s = c in column_values s.args.coeff.now s.args.column s.requires.0.range_most c.limited_column.ensures

pub returns : goal.returns
returns c =
    let a = c.args in
    put_line (trans_matrix 8) 8 a.range a.coeff.now c.limited_column.ensures c.line_8-z.ensures c.put_rounded.ensures c.put_rounded.ensures.long c.put_column.ensures
