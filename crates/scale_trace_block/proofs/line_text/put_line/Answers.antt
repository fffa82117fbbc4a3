-- `scale_trace_block::line_text::put_line` meets its contract: index, m, then the rule.
use Rattle.scale_trace_block.proofs.LineLaws.{line_wrote}
use native.Mathlib.Omega.{arith}
use Rattle.scale_trace_block.proofs.line_text.put_line.Goals as goal

pub returns : goal.returns
returns c =
    record {
      wrote = line_wrote _ _ _ _ c.factor_of-m.ensures c.source_of-source.ensures.is c.put_number-first.ensures.wrote (rw c.from.ensures at c.put_number-second.ensures.wrote) c.put_rule.ensures.wrote;
      bound = omega (arith, c.put_number-first.ensures.bound, c.put_number-second.ensures.bound, c.put_rule.ensures.bound);
    }
