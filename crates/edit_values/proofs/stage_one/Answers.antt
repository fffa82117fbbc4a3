-- `edit_values::stage_one` meets its contract: the ends are those of the range.
use mathlib.Core.Path.{◌≡◌, refl}
use borrow.Author.Rules.{sfits_of}
use lib.IntN.{pos, ◌-ℤ◌}
use lib.Pow.{pow_mono}
use Rattle.integers.proofs.MachineLaws.{round_trip}
use Rattle.integers.proofs.BoundLaws.{within_le, within_fits}
use Rattle.h265.specs.Range.{coeff_min, coeff_max, clip_coeff}
use Rattle.h265.proofs.RangeLaws.{coeff_min_within, coeff_max_within, coeff_min_eq, coeff_max_eq, clip_coeff_within}
use Rattle.edit_values.proofs.stage_one.Goals as goal
use Rattle.edit_values.proofs.stage_one.Goals.{After-clip3, After-pow2-end}

module _ (c : After-pow2-end) where
  least_is : pos 0 -ℤ c.pow2-end.result ≡ coeff_min c.args.range
  least_is = coeff_min_eq c.pow2-end.result c.args.range c.pow2-end.ensures

  most_is : c.pow2-end.result -ℤ pos 1 ≡ coeff_max c.args.range
  most_is = coeff_max_eq c.pow2-end.result c.args.range c.pow2-end.ensures

pub overflow_sub-end : goal.overflow_sub-end
overflow_sub-end c =
    rw (round_trip (sfits_of c.pow2-end.type_inv), least_is c)
    (within_fits {b = 4194304} tt (within_le (pow_mono {i = c.args.range} {j = 22} c.requires.1) (coeff_min_within c.args.range)))

pub overflow_sub-end-2 : goal.overflow_sub-end-2
overflow_sub-end-2 c =
    rw (round_trip (sfits_of c.pow2-end.type_inv), most_is c)
    (within_fits {b = 4194304} tt (within_le (pow_mono {i = c.args.range} {j = 22} c.requires.1) (coeff_max_within c.args.range)))

result_is : (c : After-clip3) → let d = c in c.clip3.result ≡ clip_coeff d.args.range c.round_shift.result
unfolding clip_coeff
result_is c =
    let d = c in
    rw (round_trip (overflow_sub-end (goal.at.returns c).After-pow2-end), round_trip (overflow_sub-end-2 (goal.at.returns c).After-pow2-end), round_trip (sfits_of d.pow2-end.type_inv), least_is (goal.at.returns c).After-pow2-end, most_is (goal.at.returns c).After-pow2-end, round_trip (sfits_of c.round_shift.type_inv)) at c.clip3.ensures

pub returns : goal.returns
returns c =
    let s = c in
    let r = s.args.range in
    rw (round_trip (sfits_of c.clip3.type_inv), result_is c, rw (round_trip s.ranges.sum) at c.round_shift.ensures)
    (refl, within_le (pow_mono {i = r} {j = 22} s.requires.1) (clip_coeff_within r _))
