-- `feed_lines::block_text::put_counted` meets its contract: the rows, then the line behind them.
use mathlib.Core.Path.{sym}
use native.Mathlib.Nat.{le_refl}
use native.Mathlib.Omega.{arith}
use lib.Seq.{length-take-le}
use Rattle.text.proofs.WroteLaws.{wrote_more}
use Rattle.feed_lines.proofs.block_text.put_counted.Goals as goal

pub returns : goal.returns
returns c =
    record {
      wrote = wrote_more c.put_block-end.ensures.wrote c.put_line.ensures.wrote;
      bound = omega (arith, c.requires.word, c.put_block-end.ensures.bound, c.put_line.ensures.bound);
    }
