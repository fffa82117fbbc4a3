-- The small feeds have the listings that are expected, by computation.
use mathlib.Core.Path.{refl}
use Rattle.integers.specs.Lists.{tabulate, tabulate_from}
use Rattle.h265.specs.ScalingFactor.{factor_source, entry_of, factor_by, scaling_factor}
use Rattle.refusal.specs.Condition.{depth_refused}
use Rattle.transform_1d.specs.Kinds.{dst_refused as kind_refused}
use Rattle.edited_history.specs.History.{by_edit, answer_to}
use Rattle.text.specs.Text.{digits, unsigned_text}
use Rattle.feed_format.specs.Format.{kind_of, record_length, flag_of, mode_of, known_mode, dst_refused, list_ignored}
use Rattle.feed_lines.specs.Lines.{refused_text}
use Rattle.feed_rules.specs.Block.{list_for}
use Rattle.feed_rules.specs.Record.{parameters_effect, list_effect, no_list_effect, block_after, levels_by, levels_effect, edit_effect, reading_effect, body_effect, record_effect}
use Rattle.feed_rules.specs.Feed.{text_by, opened_as, edited_by, read_by, beginning}
use Rattle.scale_trace_rules.specs.Block.{block_source, block_factor, rule_text, line_text, lines_from, block_lines}
use Rattle.scale_trace_rules.specs.Trace.{trace_effect, trace_text}
use Rattle.scale_trace_rules.specs.Examples.{examples, ExamplesHold}

pub examples_hold : ExamplesHold
unfolding ExamplesHold examples tabulate tabulate_from factor_source entry_of factor_by scaling_factor depth_refused kind_refused by_edit answer_to digits unsigned_text kind_of record_length flag_of mode_of known_mode dst_refused list_ignored refused_text list_for parameters_effect list_effect no_list_effect block_after levels_by levels_effect edit_effect reading_effect body_effect record_effect text_by opened_as edited_by read_by beginning block_source block_factor rule_text line_text lines_from block_lines trace_effect trace_text
examples_hold = refl
