-- `feed_lines::line_text::put_last` meets its contract: at most 20 digits, then the line end.
use native.Mathlib.Omega.{arith}
use lib.ListN.{length-set}
use Rattle.text.proofs.WroteLaws.{wrote_one, wrote_more}
use Rattle.text.proofs.NumberLaws.{unsigned_length}
use Rattle.feed_lines.proofs.line_text.put_last.Goals as goal

pub put_unsigned-end-requires : goal.put_unsigned-end-requires
put_unsigned-end-requires c = omega (arith, unsigned_length 19 c.args.n (omega arith))

pub bounds-out-end : goal.bounds-out-end
bounds-out-end c =
    omega (arith, unsigned_length 19 c.args.n (omega arith), c.put_unsigned-end.ensures.end, c.put_unsigned-end.auto.out)

pub overflow_add-result : goal.overflow_add-result
overflow_add-result c =
    omega (arith, unsigned_length 19 c.args.n (omega arith), c.put_unsigned-end.ensures.end, c.put_unsigned-end.auto.out)

pub returns : goal.returns
returns c =
    record {
      wrote = wrote_more c.put_unsigned-end.ensures (wrote_one _ _ _);
      bound = omega (arith, unsigned_length 19 c.args.n (omega arith), c.put_unsigned-end.ensures.end);
    }
