-- `feed_lines::line_text::put_line` meets its contract: the word, then the number that ends the line.
use mathlib.Core.Path.{◌∙◌}
use native.Mathlib.Omega.{arith}
use Rattle.text.proofs.WroteLaws.{wrote_more}
use Rattle.feed_lines.proofs.line_text.put_line.Goals as goal

pub returns : goal.returns
returns c =
    let p = c.put_bytes-end in
    record {
      wrote = wrote_more p.ensures c.put_last.ensures.wrote;
      bound = omega (arith, p.ensures.end, c.put_last.ensures.bound);
    }
