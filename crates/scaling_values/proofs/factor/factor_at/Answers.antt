-- `scaling_values::factor::factor_at` meets its contract: no list means 16, and a list is looked up.
use Rattle.h265.specs.ScalingFactor.{scaling_factor, factor_source, factor_by}
use Rattle.scaling_values.proofs.factor.factor_at.Goals as goal

pub returns-in-Flat : goal.returns-in-Flat
unfolding scaling_factor factor_source factor_by
returns-in-Flat c = rw c.in-Flat.is
