-- `parameters::log2_of_size` meets its contract: the power of two at the logarithm and the one above it stand around the size.
use native.Mathlib.Nat.{two-pow-succ}
use native.Mathlib.Omega.{arith}
use Rattle.parameters.proofs.ParametersLaws.{log2_exact}
use Rattle.parameters.proofs.log2_of_size.Goals as goal

pub returns : goal.returns
returns c =
    log2_exact c.args.n c.ilog2.result c.requires c.ilog2.ensures.power_le (omega (arith, c.ilog2.ensures.next_power_gt, two-pow-succ c.ilog2.result))
