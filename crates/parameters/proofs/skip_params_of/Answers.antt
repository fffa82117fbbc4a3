-- `parameters::skip_params_of` meets its contract: t is a difference of small numbers.
use mathlib.Core.Path.{◌≡◌, ap₂}
use Prim.Native.Nat.{ℕ, ◌+◌, ◌≤◌}
use native.Mathlib.Omega.{arith}
use borrow.Author.Rules.{sfits_of}
use lib.IntN.{pos, neg_ℤ, nat_abs, ◌-ℤ◌}
use mir.Syntax.{w32}
use mir.Val.{to_z, SFits}
use mir.Facts.{to_z_pos}
use Rattle.integers.proofs.LinearLaws.{parts_add, parts_neg}
use Rattle.integers.proofs.MachineLaws.{round_trip, sfits_abs}
use Rattle.integers.proofs.BoundLaws.{within_out}
use Rattle.h265.specs.TransformSkip.{ts_shift}
use Rattle.h265.proofs.RangeLaws.{transform_range_least, transform_range_most}
use Rattle.parameters.specs.Parameters.{transform_skip_of}
use Rattle.parameters.proofs.skip_params_of.Goals as goal
use Rattle.parameters.proofs.skip_params_of.Goals.{After-transform_range-range}

range_fits : (c : After-transform_range-range) → (15 ≤ c.transform_range-range.result) × (c.transform_range-range.result ≤ 22)
range_fits c =
    rw c.transform_range-range.ensures
    (transform_range_least c.args.precision.bit_depth c.args.precision.extended, transform_range_most c.args.precision.bit_depth c.args.precision.extended c.requires.shallow)

pub overflow_cast-tr_shift : goal.overflow_cast-tr_shift
overflow_cast-tr_shift c = sfits_abs (omega (arith, range_fits c))

-- what the machine subtracts
shift_is : (c : After-transform_range-range) → to_z w32 c.transform_range-range.result -ℤ to_z w32 (c.args.precision.bit_depth + c.args.log2n) ≡ ts_shift c.transform_range-range.result c.args.precision.bit_depth c.args.log2n
unfolding ts_shift
shift_is c =
    ap₂ ◌-ℤ◌ (to_z_pos w32 (omega (arith, range_fits c))) (to_z_pos w32 {n = c.args.precision.bit_depth + c.args.log2n} (omega (arith, c.requires)))

shift_small : (r b l : ℕ) → 15 ≤ r → r ≤ 22 → b + l ≤ 21 → nat_abs (ts_shift r b l) ≤ 22
unfolding ts_shift
shift_small r b l h k m = (within_out {b = 22} (pos r -ℤ pos (b + l)) (omega (arith, parts_add (pos r) (neg_ℤ (pos (b + l))), parts_neg (pos (b + l))))).within

small : (c : After-transform_range-range) → nat_abs (ts_shift c.transform_range-range.result c.args.precision.bit_depth c.args.log2n) ≤ 22
small c =
    shift_small c.transform_range-range.result c.args.precision.bit_depth c.args.log2n (range_fits c).0 (range_fits c).1 (omega (arith, c.requires))

fits : (c : After-transform_range-range) → SFits w32 (to_z w32 c.transform_range-range.result -ℤ to_z w32 (c.args.precision.bit_depth + c.args.log2n))
fits c = rw (shift_is c) (sfits_abs (omega (arith, small c)))

pub overflow_sub-tr_shift : goal.overflow_sub-tr_shift
overflow_sub-tr_shift c = fits (goal.at.overflow_sub-tr_shift c).After-transform_range-range

pub skip_add-requires : goal.skip_add-requires
skip_add-requires c =
    let t = (goal.at.skip_add-requires c).After-transform_range-range in
    rw (round_trip (fits t), shift_is t) (omega (arith, small t))

pub returns : goal.returns
unfolding transform_skip_of
returns c =
    rw (
      round_trip (sfits_of c.skip_add.type_inv),
      c.skip_add.ensures,
      round_trip (fits (goal.at.returns c).After-transform_range-range),
      shift_is (goal.at.returns c).After-transform_range-range,
      c.params_of-dequant.ensures,
      round_trip c.ranges.qp_prime,
      c.transform_range-range.ensures,
    )
