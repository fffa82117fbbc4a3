-- `coefficients::is_below` meets its contract: the test is against the lower end of the range.
use Rattle.integers.proofs.MachineLaws.{round_trip}
use Rattle.h265.proofs.RangeLaws.{coeff_min_within}
use Rattle.coefficients.proofs.OutsideLaws.{range_fits, low_end}
use Rattle.coefficients.proofs.is_below.Goals as goal

pub overflow_sub-result : goal.overflow_sub-result
overflow_sub-result c = rw (low_end c.args.range c.requires) (range_fits c.args.range c.requires (coeff_min_within c.args.range))

pub returns : goal.returns
returns c = rw (round_trip c.ranges.x, round_trip (overflow_sub-result c), low_end c.args.range c.requires)
