-- `stages_wide::residual_wide` meets its contract: a kind is one of two matrices, and coefficients in the range need no limit.
use mathlib.Core.Path.{◌≡◌}
use native.Mathlib.Omega.{arith}
use Rattle.h265.specs.Transform.{stage_two_shift}
use Rattle.transform_1d.specs.MatrixOf.{matrix_of}
use Rattle.h265.proofs.RangeLaws.{size_bound}
use Rattle.stages_wide.proofs.ResultLaws.{stages_needs_wide, stages_needs_size, filled-residual, filled-dct, filled_dst}
use Rattle.stages_wide.proofs.residual_wide.Goals as goal
use Rattle.stages_wide.proofs.residual_wide.Goals.{In-Dst}

at_dst : (c : In-Dst) → c.args.n ≡ 4
at_dst c = c.requires.0.dst c.in-Dst.is

pub both_4-requires : goal.both_4-requires
unfolding stage_two_shift
both_4-requires c =
    let p = c.requires in
    rw c.stage_two_shift-shift.ensures (stages_needs_size (at_dst (goal.at.both_4-requires c).In-Dst) (stages_needs_wide p.0 p.1 p.2.columns) (omega (arith, p.2.columns)))

pub stages_dct-requires : goal.stages_dct-requires
unfolding stage_two_shift
stages_dct-requires c = let p = c.requires in rw c.stage_two_shift-shift.ensures (p.0.size, stages_needs_wide p.0 p.1 (omega (arith, p.2.columns)))

pub returns-in-Dst : goal.returns-in-Dst
unfolding matrix_of stage_two_shift
returns-in-Dst c =
    let k = c.args in
    let p = c.requires in
    filled-residual (matrix_of k.kind k.n) k.n k.bit_depth k.range k.nx k.coeff.now (omega (arith, size_bound k.n p.0.size)) p.2 p.0.room
    (filled_dst (stage_two_shift k.bit_depth k.range) k.range k.nx k.coeff.now (at_dst (goal.at.returns-in-Dst c).In-Dst) c.in-Dst.is (rw c.stage_two_shift-shift.ensures at c.both_4.ensures))

pub returns-in-Dct : goal.returns-in-Dct
unfolding matrix_of stage_two_shift
returns-in-Dct c =
    let k = c.args in
    let p = c.requires in
    filled-residual (matrix_of k.kind k.n) k.n k.bit_depth k.range k.nx k.coeff.now (omega (arith, size_bound k.n p.0.size)) p.2 p.0.room
    (filled-dct (stage_two_shift k.bit_depth k.range) k.range k.nx k.coeff.now c.in-Dct.is (rw c.stage_two_shift-shift.ensures at c.stages_dct.ensures))
