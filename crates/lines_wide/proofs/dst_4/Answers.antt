-- `lines_wide::dst_4` meets its contract: each output is four products, of a column of the matrix.
use Prim.Native.Nat.{◌*◌, ◌^◌}
use Rattle.h265.specs.Matrix.{dst_entries, dst_matrix}
use Rattle.lines_wide.proofs.ValuesLaws.{outputs_4, quad_output}
use Rattle.lines_wide.proofs.dst_4.Goals as goal

pub returns : goal.returns
unfolding dst_matrix dst_entries
returns c =
    let v = c.requires in
    outputs_4
    (quad_output dst_matrix 0 v (242 * 2 ^ 22) c.quad.ensures.0 c.quad.ensures.1 tt)
    (quad_output dst_matrix 1 v (242 * 2 ^ 22) c.quad-2.ensures.0 c.quad-2.ensures.1 tt)
    (quad_output dst_matrix 2 v (222 * 2 ^ 22) c.quad-3.ensures.0 c.quad-3.ensures.1 tt)
    (quad_output dst_matrix 3 v (242 * 2 ^ 22) c.quad-4.ensures.0 c.quad-4.ensures.1 tt)
