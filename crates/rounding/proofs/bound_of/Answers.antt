-- `rounding::bound_of` meets its contract: S is at most 1862 and s2 at most 12, so that nothing wraps.
use mathlib.Core.Path.{◌≡◌, ap, ◌∙◌}
use Prim.Native.Nat.{ℕ, ◌+◌, ◌*◌, ◌%◌, ◌^◌, ◌≤◌}
use native.Mathlib.Nat.{one-mul, mod-eq_of_lt}
use native.Mathlib.Omega.{arith}
use lib.Pow.{pow_mono}
use Rattle.h265.specs.Transform.{stage_two_shift}
use Rattle.h265.proofs.RangeLaws.{transform_range_least, transform_range_most}
use Rattle.rounding.specs.Exact.{shift_of, rounding_bound}
use Rattle.rounding.proofs.ExactLaws.{entry_sum_bound, shift_of_bound}
use Rattle.rounding.proofs.bound_of.Goals as goal
use Rattle.rounding.proofs.bound_of.Goals.{After-stage_two_shift-shift}

sum_fits : (c : After-stage_two_shift-shift) → c.entry_sum-sum.result ≤ 1862
sum_fits c = rw c.entry_sum-sum.ensures (entry_sum_bound c.args.kind c.args.n c.requires.0)

shift_is : (c : After-stage_two_shift-shift) → c.stage_two_shift-shift.result ≡ shift_of c.args.precision.bit_depth c.args.precision.extended
unfolding shift_of
shift_is c = c.stage_two_shift-shift.ensures ∙ ap (stage_two_shift c.args.precision.bit_depth) c.transform_range-range.ensures

shift_fits : (c : After-stage_two_shift-shift) → c.stage_two_shift-shift.result ≤ 12
shift_fits c = rw (shift_is c) (shift_of_bound c.args.precision.bit_depth c.args.precision.extended c.requires.1 c.requires.2).1

power_is : (s : ℕ) → s ≤ 12 → ((1 * 2 ^ (6 + s)) % 4294967296 ≡ 2 ^ (6 + s)) × (2 ^ (6 + s) ≤ 2 ^ 18)
power_is s h =
    let p : 2 ^ (6 + s) ≤ 2 ^ 18 = pow_mono {i = 6 + s} {j = 18} (omega arith) in
    (rw (one-mul (2 ^ (6 + s))) (mod-eq_of_lt (omega (arith, p))), p)

pub stage_two_shift-shift-requires : goal.stage_two_shift-shift-requires
stage_two_shift-shift-requires c =
    let p = c.args.precision in
    rw c.transform_range-range.ensures (omega (arith, transform_range_least p.bit_depth p.extended, c.requires), transform_range_most p.bit_depth p.extended c.requires.2)

pub overflow_mul-result : goal.overflow_mul-result
overflow_mul-result c = record { fits = omega (arith, sum_fits c) }

pub overflow_add-result : goal.overflow_add-result
overflow_add-result c = record { fits = omega (arith, shift_fits c) }

pub overflow_shl-result : goal.overflow_shl-result
overflow_shl-result c = omega (arith, shift_fits c)

pub overflow_add-result-2 : goal.overflow_add-result-2
overflow_add-result-2 c = record { fits = omega (arith, sum_fits c, power_is c.stage_two_shift-shift.result (shift_fits c)) }

pub returns : goal.returns
unfolding rounding_bound
returns c = rw ((power_is c.stage_two_shift-shift.result (shift_fits c)).0, c.entry_sum-sum.ensures, shift_is c)
