-- `scaling_lists_taken::number_of` meets its contract: the reference is the definition's, and stands before the list.
use Prim.Native.Nat.{◌*◌, ◌≤◌}
use native.Mathlib.Omega.{arith}
use Rattle.scaling_lists_codes.specs.Syntax.{size_id}
use Rattle.scaling_lists_taken.proofs.NumberLaws.{reference_far, number-before, number_eq}
use Rattle.scaling_lists_taken.proofs.number_of.Goals as goal
use Rattle.scaling_lists_taken.proofs.number_of.Goals.{After-matrix_of}

-- the reference does not reach below matrix_id 0
inside : (c : After-matrix_of) → c.args.delta * c.matrix_step-step.result ≤ c.matrix_of.result
unfolding size_id
inside c =
    let a = c in
    rw (c.matrix_step-step.ensures.0, c.matrix_of.ensures.0) (reference_far a.args.j a.args.delta a.requires.0 a.requires.2)

pub overflow_sub-reference : goal.overflow_sub-reference
overflow_sub-reference c = inside c

pub returns : goal.returns
returns c =
    let a = c in
    let e = number_eq a.args.j a.args.delta c.matrix_step-step.result c.matrix_of.result c.matrix_step-step.ensures.0 c.matrix_of.ensures.0 in
    (e, rw e (number-before a.args.j a.args.delta a.requires.0 a.requires.2 a.requires.1))
