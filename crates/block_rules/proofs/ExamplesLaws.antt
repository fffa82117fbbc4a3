-- The examples hold, by computation.
use mathlib.Core.Path.{refl}
use Rattle.integers.specs.Clip.{clip3}
use Rattle.integers.specs.Lists.{tabulate, tabulate_from, overwrite}
use Rattle.integers.specs.Search.{first_where}
use Rattle.integers.specs.Shift.{shift_right, round_shift}
use Rattle.integers.specs.Sum.{sum}
use Rattle.h265.specs.Range.{log2_size, transform_range, coeff_min, coeff_max, clip_coeff, outside_range}
use Rattle.h265.specs.Quantization.{qp_bd_offset, clip_qp_prime, level_scale, scale_of_qp}
use Rattle.h265.specs.ScalingFactor.{repeated_position, factor_source, entry_of, dc_of, factor_by, scaling_factor}
use Rattle.h265.specs.Scaling.{bd_shift, scaled_value, scale_level, scaled_at}
use Rattle.h265.specs.Limited.{level_limited, result_limited, limited_level, limited_at, count_of, limited_count}
use Rattle.h265.specs.Matrix.{folding_values, folding, folded_entry, folded_angle, trans_matrix32, trans_matrix}
use Rattle.h265.specs.Transform.{transform_line, block_at, row_order, stage_one_sum, stage_one_value, intermediate, stage_two_sum, stage_two_shift, stage_two}
use Rattle.refusal.specs.Condition.{size_refused, depth_refused, list_refused, block_refused}
use Rattle.coefficients.specs.Outside.{outside_at, first_outside, outside_refusal, refusal_at}
use Rattle.transform_1d.specs.Kinds.{dst_refused}
use Rattle.transform_1d.specs.MatrixOf.{matrix_of}
use Rattle.stages_wide.specs.Wide.{column_replaced}
use Rattle.block_rules.specs.Columns.{column_used, last_where, column_count}
use Rattle.block_rules.specs.Edit.{intermediate_of, residual_of, block_ladder, opened_buffers, opened, edited_buffers, edited}
use Rattle.block_rules.specs.Opening.{opened_as}
use Rattle.block_rules.specs.Level.{scaled_by, limits_by, level_ladder, level_edited, scaled_buffers, level_opened}
use Rattle.block_rules.specs.Examples.{examples, ExamplesHold}

pub examples_hold : ExamplesHold
unfolding ExamplesHold examples clip3 tabulate tabulate_from overwrite first_where shift_right round_shift sum log2_size transform_range coeff_min coeff_max clip_coeff outside_range qp_bd_offset clip_qp_prime level_scale scale_of_qp repeated_position factor_source entry_of dc_of factor_by scaling_factor bd_shift scaled_value scale_level scaled_at level_limited result_limited limited_level limited_at count_of limited_count folding_values folding folded_entry folded_angle trans_matrix32 trans_matrix transform_line block_at row_order stage_one_sum stage_one_value intermediate stage_two_sum stage_two_shift stage_two size_refused depth_refused list_refused block_refused outside_at first_outside outside_refusal refusal_at dst_refused matrix_of column_replaced column_used last_where column_count intermediate_of residual_of block_ladder opened_buffers opened edited_buffers edited opened_as scaled_by limits_by level_ladder level_edited scaled_buffers level_opened
examples_hold = refl
