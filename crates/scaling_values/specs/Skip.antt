-- What the functions of one residual of transform skip rely on.
--   Rounded c a t     the coefficient and the shift are small, and a is the rounding of the shift
--   Skippable p       the same of a block's numbers
use Rattle.std.specs.Prelude.{◌≡◌, ℤ}
use Rattle.integers.specs.Within.{Within}
use Rattle.parameters.specs.declared.TransformSkipParams.{TransformSkipParams}
use Rattle.parameters.specs.Parameters.{ts_add}
use Rattle.scaling_values.specs.Level.{Manageable}

pub record Rounded (c a t : ℤ) : Type 0 where
  pub coefficient : Within 4194304 c
  pub shift : Within 6 t
  pub add : a ≡ ts_add t

pub record Skippable (p : TransformSkipParams) : Type 0 where
  pub scaling : Manageable p.dequant
  pub shift : Within 6 p.tr_shift
  pub add : p.tr_add ≡ ts_add p.tr_shift
