-- The examples hold, by computation.
use mathlib.Core.Path.{refl}
use Rattle.integers.specs.Clip.{clip3}
use Rattle.integers.specs.Lists.{tabulate, tabulate_from, overwrite}
use Rattle.integers.specs.Search.{first_where}
use Rattle.integers.specs.Shift.{shift_right, round_shift}
use Rattle.integers.specs.Sum.{sum}
use Rattle.h265.specs.Range.{log2_size, transform_range, coeff_min, coeff_max, clip_coeff, outside_range}
use Rattle.h265.specs.Quantization.{qp_bd_offset, clip_qp_prime, level_scale, scale_of_qp}
use Rattle.h265.specs.ScalingFactor.{repeated_position, factor_source, entry_of, dc_of, factor_by, scaling_factor}
use Rattle.h265.specs.Scaling.{bd_shift, scaled_value, scale_level, scaled_at}
use Rattle.h265.specs.Limited.{level_limited, result_limited, limited_level, limited_at, count_of, limited_count}
use Rattle.h265.specs.TransformSkip.{ts_shift, ts_residual}
use Rattle.refusal.specs.Condition.{size_refused, depth_refused, rotation_refused, list_refused, block_refused}
use Rattle.coefficients.specs.Outside.{outside_at, first_outside, outside_refusal, refusal_at}
use Rattle.block_tool_rules.specs.Modification.{rotated_index, rotated, accumulated_row, accumulated_column, modified}
use Rattle.block_tool_rules.specs.Residual.{skip_residual_at, bypass_residual_at, skip_residual, bypass_ladder, bypass_residual}
use Rattle.block_tool_rules.specs.Examples.{examples, ExamplesHold}

pub examples_hold : ExamplesHold
unfolding ExamplesHold examples clip3 tabulate tabulate_from overwrite first_where shift_right round_shift sum log2_size transform_range coeff_min coeff_max clip_coeff outside_range qp_bd_offset clip_qp_prime level_scale scale_of_qp repeated_position factor_source entry_of dc_of factor_by scaling_factor bd_shift scaled_value scale_level scaled_at level_limited result_limited limited_level limited_at count_of limited_count ts_shift ts_residual size_refused depth_refused rotation_refused list_refused block_refused outside_at first_outside outside_refusal refusal_at rotated_index rotated accumulated_row accumulated_column modified skip_residual_at bypass_residual_at skip_residual bypass_ladder bypass_residual
examples_hold = refl
