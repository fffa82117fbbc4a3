-- `scale_trace_block::line_text::put_lines` meets its contract: the lines from the present index on are left to write, and each took at most 20 bytes.
use Rattle.scale_trace_block.proofs.LineLaws.{lines_start, lines_more}
use native.Mathlib.Omega.{arith}
use Rattle.scale_trace_block.proofs.line_text.put_lines.Goals as goal

pub loop-i-init : goal.loop-i-init
loop-i-init c = (omega arith, lines_start _ _ _ _ _)

pub loop-i-preserved : goal.loop-i-preserved
loop-i-preserved c =
    let l = c.loop-i in
    let p = c.put_line-end.ensures in
    (omega (arith, p.bound), lines_more _ _ _ l.i _ c.loop-i-test.true l.invariant.1 p.wrote)
