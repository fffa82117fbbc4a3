-- `coefficients::transform_range` meets its contract: the larger of B + 6 and 15 is that of 15 and B + 6.
use native.Mathlib.Omega.{arith}
use Rattle.h265.specs.Range.{transform_range}
use Rattle.coefficients.proofs.transform_range.Goals as goal

pub returns-then-precision : goal.returns-then-precision
unfolding transform_range
returns-then-precision c = simp (c.if-precision.true, c.max.ensures) (omega arith)

pub returns : goal.returns
unfolding transform_range
returns c = simp c.if-precision.false
