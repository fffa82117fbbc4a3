-- `scale_trace_block::line_text::put_rule` meets its contract: the word, a space, the position, the line end.
use Rattle.text.proofs.WroteLaws.{wrote_one, wrote_more}
use Rattle.scale_trace_rules.specs.Block.{rule_text}
use native.Mathlib.Omega.{arith}
use Rattle.scale_trace_block.proofs.line_text.put_rule.Goals as goal

pub returns : goal.returns
unfolding rule_text
returns c =
    record {
      wrote = wrote_more c.put_reason-word.ensures.wrote (wrote_more (wrote_one _ _ 32) (wrote_more c.put_position-end.ensures.wrote (wrote_one _ _ 10)));
      bound = omega (arith, c.put_position-end.ensures.bound, c.put_reason-word.ensures.bound);
    }
