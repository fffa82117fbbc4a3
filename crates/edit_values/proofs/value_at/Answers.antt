-- `edit_values::value_at` meets its contract: a place of at most 2^23 less at most 2^22.
use mathlib.Core.Path.{◌≡◌, refl}
use borrow.Author.Rules.{sfits_of}
use lib.IntN.{◌-ℤ◌}
use lib.Pow.{pow_mono}
use mir.Syntax.{w64}
use mir.Val.{to_z, of_z}
use Rattle.integers.specs.Within.{Within}
use Rattle.integers.proofs.MachineLaws.{round_trip}
use Rattle.integers.proofs.BoundLaws.{within_add, within_neg, within_pos, within_fits}
use Rattle.h265.specs.Range.{coeff_min}
use Rattle.edit_values.specs.Values.{value_at}
use Rattle.edit_values.proofs.value_at.Goals as goal
use Rattle.edit_values.proofs.value_at.Goals.{After-pow2}

module _ (c : After-pow2) where
  sum_is : to_z w64 (of_z w64 c.from.result) -ℤ to_z w64 (of_z w64 c.pow2.result) ≡ value_at c.args.range c.args.place
  unfolding value_at coeff_min
  sum_is = rw (round_trip {w = w64} (sfits_of c.from.type_inv), c.from.ensures, round_trip (sfits_of c.pow2.type_inv), c.pow2.ensures)

  value_within : Within 12582912 (value_at c.args.range c.args.place)
  unfolding value_at coeff_min
  value_within = within_add (within_pos c.requires.1) (within_neg (within_pos (pow_mono {i = c.args.range} {j = 22} c.requires.0)))

pub overflow_sub-result : goal.overflow_sub-result
overflow_sub-result c = rw (sum_is c) (within_fits tt (value_within c))

pub returns : goal.returns
returns c = rw (round_trip (overflow_sub-result c), sum_is c) (refl, value_within c)
