-- `contributions::products::product` meets its contract: 2^15 × 2^15 × 2^31 is below 2^63.
use mathlib.Core.Path.{◌∙◌}
use borrow.Author.Rules.{sfits_of}
use lib.IntN.{ℤ, ◌*ℤ◌}
use mir.Syntax.{w16, w32, w64}
use mir.Val.{SFits}
use Rattle.integers.proofs.BoundLaws.{within_mul, within_fits, within_sfits}
use Rattle.integers.proofs.MachineLaws.{round_trip}
use Rattle.contributions.proofs.products.product.Goals as goal

pair_fits : {u v : ℤ} → SFits w16 u → SFits w16 v → SFits w64 (u *ℤ v)
pair_fits a b = within_fits tt (within_mul (within_sfits a) (within_sfits b))

all_fit : {u v x : ℤ} → SFits w16 u → SFits w16 v → SFits w32 x → SFits w64 ((u *ℤ v) *ℤ x)
all_fit a b c = within_fits tt (within_mul (within_mul (within_sfits a) (within_sfits b)) (within_sfits c))

pub overflow_mul-result : goal.overflow_mul-result
overflow_mul-result c =
    rw (round_trip {w = w64} (sfits_of c.from.type_inv) ∙ c.from.ensures ∙ round_trip c.ranges.u, round_trip {w = w64} (sfits_of c.from-2.type_inv) ∙ c.from-2.ensures ∙ round_trip c.ranges.v)
    (pair_fits c.ranges.u c.ranges.v)

pub overflow_mul-result-2 : goal.overflow_mul-result-2
overflow_mul-result-2 c =
    rw (round_trip {w = w64} (sfits_of c.from.type_inv) ∙ c.from.ensures ∙ round_trip c.ranges.u, round_trip {w = w64} (sfits_of c.from-2.type_inv) ∙ c.from-2.ensures ∙ round_trip c.ranges.v, round_trip (pair_fits c.ranges.u c.ranges.v), round_trip {w = w64} (sfits_of c.from-3.type_inv) ∙ c.from-3.ensures ∙ round_trip c.ranges.x)
    (all_fit c.ranges.u c.ranges.v c.ranges.x)

pub returns : goal.returns
returns c =
    rw (round_trip {w = w64} (sfits_of c.from.type_inv) ∙ c.from.ensures ∙ round_trip c.ranges.u, round_trip {w = w64} (sfits_of c.from-2.type_inv) ∙ c.from-2.ensures ∙ round_trip c.ranges.v, round_trip (pair_fits c.ranges.u c.ranges.v), round_trip {w = w64} (sfits_of c.from-3.type_inv) ∙ c.from-3.ensures ∙ round_trip c.ranges.x, round_trip (all_fit c.ranges.u c.ranges.v c.ranges.x))
