-- `scaling_lists_taken::matrix_of` meets its contract: no matrix_id is above 5.
use native.Mathlib.Omega.{arith}
use Rattle.scaling_lists_taken.proofs.NumberLaws.{matrix_id_eq, matrix_id_bound}
use Rattle.scaling_lists_taken.proofs.matrix_of.Goals as goal

pub returns : goal.returns
returns c =
    let e = matrix_id_eq c.args.j c.matrix_step.result c.matrix_step.ensures.0 in
    (e, omega (arith, e, matrix_id_bound c.args.j c.requires))
