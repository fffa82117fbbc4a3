-- `text::put_unsigned` meets its contract: all digits but the last, by a call on a tenth of the number, then the last.
use Rattle.std.proofs.Common.{ap, arith, length}
use Rattle.text.proofs.WroteLaws.{wrote_one, wrote_more}
use Rattle.text.proofs.NumberLaws.{unsigned_small, unsigned_more, unsigned_shorter}
use Rattle.text.proofs.+put_unsigned.Goals as goal

pub bounds-out-at : goal.bounds-out-at
bounds-out-at t c = omega (arith, ap length (unsigned_small _ c.if-n-lt10.true))

pub returns-then-n-lt10 : goal.returns-then-n-lt10
returns-then-n-lt10 t c = rw (unsigned_small _ c.if-n-lt10.true) (wrote_one _ _ _)

pub put_unsigned-end-requires : goal.put_unsigned-end-requires
put_unsigned-end-requires t c = (omega arith, omega (arith, unsigned_shorter c.args.n c.if-n-lt10.false (omega arith)))

pub bounds-out-end : goal.bounds-out-end
bounds-out-end t c = omega (arith, unsigned_shorter c.args.n c.if-n-lt10.false (omega arith), c.put_unsigned-end.ensures.end)

pub overflow_add-result-2 : goal.overflow_add-result-2
overflow_add-result-2 t c = omega (arith, unsigned_shorter c.args.n c.if-n-lt10.false (omega arith), c.put_unsigned-end.ensures.end)

pub returns : goal.returns
returns t c = rw (unsigned_more _ c.if-n-lt10.false (omega arith)) (wrote_more c.put_unsigned-end.ensures (wrote_one _ _ _))
