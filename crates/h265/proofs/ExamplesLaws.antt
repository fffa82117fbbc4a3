-- The marked examples hold, by computation.
use mathlib.Core.Path.{refl}
use Rattle.integers.specs.Clip.{clip3}
use Rattle.integers.specs.Lists.{tabulate, tabulate_from}
use Rattle.integers.specs.Shift.{shift_right, round_shift}
use Rattle.integers.specs.Sum.{sum}
use Rattle.h265.specs.Range.{log2_size, transform_range, coeff_min, coeff_max, clip_coeff, outside_range}
use Rattle.h265.specs.Quantization.{qp_bd_offset, clip_qp_prime, qp_prime, level_scale, scale_of_qp}
use Rattle.h265.specs.ScalingFactor.{repeated_position, factor_source, entry_of, dc_of, factor_by, scaling_factor}
use Rattle.h265.specs.Scaling.{bd_shift, scaled_value, scale_level, scaled_at}
use Rattle.h265.specs.Limited.{level_limited, result_limited, limited_level, limited_at, count_of, limited_count}
use Rattle.h265.specs.TransformSkip.{ts_shift, ts_residual, skipped_at}
use Rattle.h265.specs.Matrix.{folding_values, folding, folded_entry, folded_angle, trans_matrix32, trans_matrix, dst_entries, dst_matrix, abs_sum}
use Rattle.h265.specs.Transform.{transform_line, block_at, row_order, columns_read, stage_one_sum, stage_one_value, intermediate, stage_two_sum, stage_two_shift, stage_two, residual}
use Rattle.h265.specs.Examples.{examples, ExamplesHold}

pub examples_hold : ExamplesHold
unfolding ExamplesHold examples log2_size transform_range coeff_min coeff_max clip_coeff outside_range qp_bd_offset clip_qp_prime qp_prime level_scale scale_of_qp repeated_position factor_source entry_of dc_of factor_by scaling_factor bd_shift scaled_value scale_level scaled_at level_limited result_limited limited_level limited_at count_of limited_count ts_shift ts_residual skipped_at folding_values folding folded_entry folded_angle trans_matrix32 trans_matrix dst_entries dst_matrix abs_sum transform_line block_at row_order columns_read stage_one_sum stage_one_value intermediate stage_two_sum stage_two_shift stage_two residual clip3 tabulate tabulate_from shift_right round_shift sum
examples_hold = refl
