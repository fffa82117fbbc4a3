-- `scale_trace_block::line_text::put_number` meets its contract: four digits at most, then the space.
use Rattle.text.proofs.WroteLaws.{wrote_one, wrote_more}
use Rattle.scale_trace_block.proofs.LineLaws.{number_short}
use native.Mathlib.Omega.{arith}
use Rattle.scale_trace_block.proofs.line_text.put_number.Goals as goal

pub returns : goal.returns
returns c =
    record {
      wrote = wrote_more c.put_unsigned-end.ensures (wrote_one _ _ _);
      bound = omega (arith, number_short _ c.requires.0, c.put_unsigned-end.ensures.end);
    }
