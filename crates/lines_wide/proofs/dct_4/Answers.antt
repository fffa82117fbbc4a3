-- `lines_wide::dct_4` meets its contract: the butterfly is the matrix, and sums of two pairs of products fit 32 bits by their sizes.
use Rattle.h265.specs.Matrix.{folding_values, folding, folded_entry, folded_angle, trans_matrix32, trans_matrix}
use Rattle.lines_wide.proofs.ValuesLaws.{sum_fits, less_fits, outputs_4, sum_output, less_output}
use Rattle.lines_wide.proofs.dct_4.Goals as goal

pub overflow_add-result : goal.overflow_add-result
overflow_add-result c = sum_fits c.pair-p.ensures.1 c.pair-r.ensures.1 tt

pub overflow_add-result-2 : goal.overflow_add-result-2
overflow_add-result-2 c = sum_fits c.pair-q.ensures.1 c.pair-s.ensures.1 tt

pub overflow_sub-result : goal.overflow_sub-result
overflow_sub-result c = less_fits c.pair-q.ensures.1 c.pair-s.ensures.1 tt

pub overflow_sub-result-2 : goal.overflow_sub-result-2
overflow_sub-result-2 c = less_fits c.pair-p.ensures.1 c.pair-r.ensures.1 tt

pub returns : goal.returns
unfolding trans_matrix trans_matrix32 folded_entry folded_angle folding folding_values
returns c =
    let v = c.requires in
    let p = c.pair-p.ensures in
    let q = c.pair-q.ensures in
    let r = c.pair-r.ensures in
    let s = c.pair-s.ensures in
    outputs_4
    (sum_output (trans_matrix 4) 0 v p.0 r.0 p.1 r.1 tt)
    (sum_output (trans_matrix 4) 1 v q.0 s.0 q.1 s.1 tt)
    (less_output (trans_matrix 4) 2 v q.0 s.0 q.1 s.1 tt)
    (less_output (trans_matrix 4) 3 v p.0 r.0 p.1 r.1 tt)
