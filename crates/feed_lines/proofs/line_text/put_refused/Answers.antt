-- `feed_lines::line_text::put_refused` meets its contract: the word, the number, a space, then the offset that ends the line.
use mathlib.Core.Path.{sym, ◌∙◌}
use Prim.Native.Nat.{◌≤◌}
use native.Mathlib.Omega.{arith}
use lib.ListN.{length, length-set}
use Rattle.text.specs.Text.{unsigned_text}
use Rattle.text.proofs.WroteLaws.{wrote_one, wrote_more}
use Rattle.text.proofs.NumberLaws.{unsigned_length}
use Rattle.feed_lines.specs.Lines.{refused_text}
use Rattle.feed_lines.proofs.line_text.put_refused.Goals as goal
use Rattle.feed_lines.proofs.line_text.put_refused.Goals.{After-from}

short : (c : After-from) → length (unsigned_text c.from.result) ≤ 3
short c = unsigned_length 2 c.from.result (omega (arith, c.from.ensures))

pub put_unsigned-end-requires : goal.put_unsigned-end-requires
put_unsigned-end-requires c =
    omega (arith, short (goal.at.put_unsigned-end-requires c).After-from, c.put_bytes-word.ensures.end, c.put_bytes-word.auto.out)

pub bounds-out-end : goal.bounds-out-end
bounds-out-end c =
    omega (arith, short (goal.at.bounds-out-end c).After-from, c.put_bytes-word.ensures.end, c.put_bytes-word.auto.out, c.put_unsigned-end.ensures.end, c.put_unsigned-end.auto.out)

pub overflow_add-end : goal.overflow_add-end
overflow_add-end c =
    omega (arith, short (goal.at.overflow_add-end c).After-from, c.put_bytes-word.ensures.end, c.put_bytes-word.auto.out, c.put_unsigned-end.ensures.end, c.put_unsigned-end.auto.out)

pub put_last-requires : goal.put_last-requires
put_last-requires c =
    simp length-set (omega (arith, short (goal.at.put_last-requires c).After-from, c.put_bytes-word.ensures.end, c.put_bytes-word.auto.out, c.put_unsigned-end.ensures.end, c.put_unsigned-end.auto.out))

pub returns : goal.returns
unfolding refused_text
returns c =
    rw (sym c.number.ensures, sym c.from.ensures)
    record {
      wrote = wrote_more c.put_bytes-word.ensures (wrote_more c.put_unsigned-end.ensures (wrote_more (wrote_one _ _ 32) c.put_last.ensures.wrote));
      bound = omega (arith, short (goal.at.returns c).After-from, c.put_bytes-word.ensures.end, c.put_unsigned-end.ensures.end, c.put_last.ensures.bound);
    }
