-- The small feeds have the texts that are expected, by computation.
use mathlib.Core.Path.{refl}
use Rattle.integers.specs.Clip.{clip3}
use Rattle.integers.specs.Lists.{tabulate, tabulate_from}
use Rattle.integers.specs.Search.{first_where}
use Rattle.integers.specs.Shift.{shift_right, round_shift}
use Rattle.integers.specs.Sum.{sum}
use Rattle.h265.specs.Range.{log2_size, transform_range, coeff_min, coeff_max, clip_coeff, outside_range}
use Rattle.h265.specs.Quantization.{qp_bd_offset, clip_qp_prime, level_scale, scale_of_qp}
use Rattle.h265.specs.ScalingFactor.{repeated_position, factor_source, entry_of, dc_of, factor_by, scaling_factor}
use Rattle.h265.specs.Scaling.{bd_shift, scaled_value, scale_level, scaled_at}
use Rattle.h265.specs.Limited.{level_limited, result_limited, limited_level, limited_at, count_of, limited_count}
use Rattle.h265.specs.TransformSkip.{ts_shift, ts_residual, skipped_at}
use Rattle.h265.specs.Matrix.{folding_values, folding, folded_entry, folded_angle, trans_matrix32, trans_matrix, dst_entries, dst_matrix}
use Rattle.h265.specs.Transform.{transform_line, block_at, row_order, columns_read, stage_one_sum, stage_one_value, intermediate, stage_two_sum, stage_two_shift, stage_two, residual}
use Rattle.refusal.specs.Condition.{depth_refused}
use Rattle.transform_1d.specs.Kinds.{dst_refused as kind_refused}
use Rattle.transform_1d.specs.MatrixOf.{matrix_of}
use Rattle.block_rules.specs.Columns.{column_used, last_where, column_count}
use Rattle.edited_history.specs.History.{by_edit, answer_to, values_after, history_of, coefficients_of, history_residual}
use Rattle.text.specs.Text.{digits, unsigned_text, signed_text, row_text, rows_text, block_text}
use Rattle.feed_format.specs.Format.{kind_of, record_length, flag_of, mode_of, known_mode, dst_refused, list_ignored, signed32, level_at, levels_of, edit_level}
use Rattle.feed_lines.specs.Lines.{limited_text, columns_text, refused_text, blocks_text}
use Rattle.feed_rules.specs.Block.{list_for, coefficients, transformed_at, residual_by, residual_at, block_residual, block_limited}
use Rattle.feed_rules.specs.Record.{parameters_effect, list_effect, no_list_effect, block_after, levels_by, levels_effect, edit_effect, reading_effect, body_effect, record_effect}
use Rattle.feed_rules.specs.Feed.{text_by, opened_as, edited_by, read_by, beginning, feed_text}
use Rattle.feed_rules.specs.Examples.{examples, ExamplesHold}

pub examples_hold : ExamplesHold
unfolding ExamplesHold examples clip3 tabulate tabulate_from first_where shift_right round_shift sum log2_size transform_range coeff_min coeff_max clip_coeff outside_range qp_bd_offset clip_qp_prime level_scale scale_of_qp repeated_position factor_source entry_of dc_of factor_by scaling_factor bd_shift scaled_value scale_level scaled_at level_limited result_limited limited_level limited_at count_of limited_count ts_shift ts_residual skipped_at folding_values folding folded_entry folded_angle trans_matrix32 trans_matrix dst_entries dst_matrix transform_line block_at row_order columns_read stage_one_sum stage_one_value intermediate stage_two_sum stage_two_shift stage_two residual depth_refused kind_refused matrix_of column_used last_where column_count by_edit answer_to values_after history_of coefficients_of history_residual digits unsigned_text signed_text row_text rows_text block_text kind_of record_length flag_of mode_of known_mode dst_refused list_ignored signed32 level_at levels_of edit_level limited_text columns_text refused_text blocks_text list_for coefficients transformed_at residual_by residual_at block_residual block_limited parameters_effect list_effect no_list_effect block_after levels_by levels_effect edit_effect reading_effect body_effect record_effect text_by opened_as edited_by read_by beginning feed_text
examples_hold = refl
