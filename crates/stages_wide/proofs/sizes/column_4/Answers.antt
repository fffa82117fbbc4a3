-- `stages_wide::sizes::column_4` meets its contract: one line over the column's limited values, rounded, limited and put in its place.
use Rattle.transform_1d.specs.MatrixOf.{matrix_of}
use Rattle.stages_wide.proofs.ProductsLaws.{column_values, put_line}
use Rattle.stages_wide.proofs.sizes.column_4.Goals as goal

pub line_4-z-requires : goal.line_4-z-requires
line_4-z-requires c = let s = c in column_values s.args.coeff.now s.args.column s.requires.0.range_most c.limited_column.ensures

pub returns : goal.returns
returns c =
    let a = c.args in
    put_line (matrix_of a.kind 4) 4 a.range a.coeff.now c.limited_column.ensures c.line_4-z.ensures c.put_rounded.ensures c.put_rounded.ensures.long c.put_column.ensures
