-- `scale_trace_block::line_text::put_lines` meets its contract: the lines from the present index on are left to write, and each took at most 20 bytes.
use Prim.Native.Nat.{◌+◌, ◌-◌, ◌*◌, ◌≤◌}
use Rattle.text.proofs.WroteLaws.{Left}
use Rattle.feed_rules.specs.Block.{list_in}
use Rattle.scale_trace_rules.specs.Block.{lines_from, block_lines}
use Rattle.scale_trace_block.proofs.line_text.put_lines.Given as goal

abbrev pub invariant-loop-i : goal.invariant-loop-i
invariant-loop-i l = (l.end ≤ l.at + 20 * l.i)
    × Left l.initial.out l.at (block_lines (list_in l.list) l.mode l.n) l.out l.end (lines_from (list_in l.list) l.mode l.n l.i (l.n * l.n - l.i))
