-- `lines_wide::odd_8` meets its contract: each output is four products, of a column of the odd rows.
use Prim.Native.Nat.{◌*◌, ◌^◌}
use Rattle.h265.specs.Matrix.{folding_values, folding, folded_entry, folded_angle, trans_matrix32, trans_matrix}
use Rattle.lines_wide.specs.Values.{odd_rows}
use Rattle.lines_wide.proofs.ValuesLaws.{outputs_4, quad_output}
use Rattle.lines_wide.proofs.odd_8.Goals as goal

pub returns : goal.returns
unfolding trans_matrix trans_matrix32 folded_entry folded_angle folding folding_values
returns c =
    let v = c.requires in
    outputs_4
    (quad_output odd_rows 0 v (232 * 2 ^ 22) c.quad.ensures.0 c.quad.ensures.1 tt)
    (quad_output odd_rows 1 v (232 * 2 ^ 22) c.quad-2.ensures.0 c.quad-2.ensures.1 tt)
    (quad_output odd_rows 2 v (232 * 2 ^ 22) c.quad-3.ensures.0 c.quad-3.ensures.1 tt)
    (quad_output odd_rows 3 v (232 * 2 ^ 22) c.quad-4.ensures.0 c.quad-4.ensures.1 tt)
