-- `coefficients::outside_refusal` meets its contract: the side is `is_below`'s.
use mathlib.Core.Path.{◌≡◌, sym, ◌∙◌}
use lib.Signed.{lt_z}
use Rattle.integers.proofs.MachineLaws.{round_trip}
use Rattle.h265.specs.Range.{coeff_min}
use Rattle.coefficients.specs.Outside.{outside_refusal}
use Rattle.coefficients.proofs.outside_refusal.Goals as goal
use Rattle.coefficients.proofs.outside_refusal.Goals.{After-is_below}

below_is : (c : After-is_below) → c.is_below.result ≡ lt_z c.args.x (coeff_min c.args.range)
below_is c = rw (round_trip c.ranges.x) at c.is_below.ensures

pub returns-then-is_below : goal.returns-then-is_below
unfolding outside_refusal
returns-then-is_below c = rw (sym (below_is (goal.at.returns-then-is_below c).After-is_below) ∙ c.if-is_below.true)

pub returns : goal.returns
unfolding outside_refusal
returns c = rw (sym (below_is (goal.at.returns c).After-is_below) ∙ c.if-is_below.false)
