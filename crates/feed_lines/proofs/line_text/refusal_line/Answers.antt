-- `feed_lines::line_text::refusal_line` meets its contract: a local array is the blank line.
use Rattle.integers.specs.Lists.{tabulate, tabulate_from}
use Rattle.feed_lines.proofs.line_text.refusal_line.Goals as goal

pub returns : goal.returns
unfolding tabulate tabulate_from
returns c = c.put_refused-end.ensures.wrote
