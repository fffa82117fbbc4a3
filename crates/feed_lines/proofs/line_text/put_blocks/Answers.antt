-- `feed_lines::line_text::put_blocks` meets its contract: a line of a word and a number, within the room of either last line.
use native.Mathlib.Omega.{arith}
use Rattle.feed_lines.specs.Lines.{blocks_text}
use Rattle.feed_lines.proofs.line_text.put_blocks.Goals as goal

pub returns : goal.returns
unfolding blocks_text
returns c = record { wrote = c.put_line.ensures.wrote; bound = omega (arith, c.put_line.ensures.bound) }
