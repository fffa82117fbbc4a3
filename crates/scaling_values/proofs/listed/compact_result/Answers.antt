-- `scaling_values::listed::compact_result` meets its contract: 32 bits hold the product and the sum, since the level is limited first.
use mathlib.Core.Path.{◌≡◌, ◌∙◌}
use Prim.Native.Nat.{◌+◌, ◌*◌, ◌^◌}
use native.Mathlib.Omega.{arith}
use borrow.Author.Rules.{sfits_of}
use lib.IntN.{pos, negsuc, ◌+ℤ◌, ◌*ℤ◌}
use lib.Signed.{shr_z}
use mir.Facts.{to_z_pos}
use mir.Syntax.{w32}
use mir.Val.{SFits}
use Rattle.integers.specs.Clip.{clip3}
use Rattle.integers.specs.Shift.{shift_right}
use Rattle.integers.specs.Within.{Within}
use Rattle.integers.proofs.LinearLaws.{le_out}
use Rattle.integers.proofs.MachineLaws.{round_trip, sfits_shr}
use Rattle.integers.proofs.BoundLaws.{within_fits, within_eq, within_mul, within_add}
use Rattle.integers.proofs.ClipLaws.{clamp_clips, clip3_within}
use Rattle.scaling_values.specs.Listed.{compact_result}
use Rattle.scaling_values.proofs.ListedLaws.{compact_numbers, factor_within}
use Rattle.scaling_values.proofs.listed.compact_result.Goals as goal
use Rattle.scaling_values.proofs.listed.compact_result.Goals.{After-clamp-near, After-struct_told-1, After-struct_told-2-1, Start}

near_is : (c : After-clamp-near) → c.clamp-near.result ≡ clip3 (negsuc 32767) (pos 32767) c.args.level
near_is c =
    rw (round_trip c.ranges.level) at c.clamp-near.ensures.value
    ∙ clamp_clips (negsuc 32767) (pos 32767) c.args.level (le_out (negsuc 32767) (pos 32767) (omega arith))

near_within : (c : After-clamp-near) → Within 32768 c.clamp-near.result
near_within c =
    within_eq (near_is c)
    (clip3_within (negsuc 32767) (pos 32767) c.args.level (le_out (negsuc 32767) (pos 32767) (omega arith)) (record { within = omega arith }) (record { within = omega arith }))

product_within : (c : After-clamp-near) → Within (32768 * (255 * 63)) (c.clamp-near.result *ℤ (pos c.args.m *ℤ c.args.by.base))
product_within c = within_mul (near_within c) (factor_within (omega arith) (goal.at.After-clamp-near c).Start.requires.base)

sum_within : (c : After-clamp-near)
    → Within (32768 * (255 * 63) + 32768) (c.clamp-near.result *ℤ (pos c.args.m *ℤ c.args.by.base) +ℤ c.args.by.add)
sum_within c = within_add (product_within c) c.requires.add

shifted_fits : (c : After-clamp-near)
    → SFits w32 (shr_z (c.clamp-near.result *ℤ (pos c.args.m *ℤ c.args.by.base) +ℤ c.args.by.add) (2 ^ c.args.by.down))
shifted_fits c = sfits_shr (2 ^ c.args.by.down) (within_fits tt (sum_within c))

pub overflow_mul-result : goal.overflow_mul-result
overflow_mul-result c = rw (to_z_pos w32 {n = c.args.m} (omega arith), round_trip (compact_numbers (goal.at.overflow_mul-result c).Start.requires).base) (within_fits tt (factor_within (omega arith) (goal.at.overflow_mul-result c).Start.requires.base))

pub overflow_mul-result-2 : goal.overflow_mul-result-2
overflow_mul-result-2 c =
    rw (round_trip (sfits_of (goal.at.overflow_mul-result-2 c).After-clamp-near.clamp-near.type_inv), round_trip (overflow_mul-result c), to_z_pos w32 {n = c.args.m} (omega arith), round_trip (compact_numbers (goal.at.overflow_mul-result-2 c).Start.requires).base)
    (within_fits tt (product_within (goal.at.overflow_mul-result-2 c).After-clamp-near))

pub overflow_add-result : goal.overflow_add-result
overflow_add-result c =
    rw (round_trip (overflow_mul-result-2 (goal.at.overflow_add-result c).After-struct_told-1), round_trip (sfits_of (goal.at.overflow_add-result c).After-clamp-near.clamp-near.type_inv), round_trip (overflow_mul-result (goal.at.overflow_add-result c).After-struct_told-1), to_z_pos w32 {n = c.args.m} (omega arith), round_trip (compact_numbers (goal.at.overflow_add-result c).Start.requires).base, round_trip (compact_numbers (goal.at.overflow_add-result c).Start.requires).add)
    (within_fits tt (sum_within (goal.at.overflow_add-result c).After-clamp-near))

pub returns : goal.returns
unfolding compact_result shift_right
returns c =
    rw (
      round_trip (overflow_add-result (goal.at.returns c).After-struct_told-2-1),
      round_trip (overflow_mul-result-2 (goal.at.returns c).After-struct_told-1),
      round_trip {w = w32} {z = c.clamp-near.result} (sfits_of c.clamp-near.type_inv),
      round_trip (overflow_mul-result (goal.at.returns c).After-struct_told-1),
      to_z_pos w32 {n = c.args.m} (omega arith),
      round_trip (compact_numbers (goal.at.returns c).Start.requires).base,
      round_trip (compact_numbers (goal.at.returns c).Start.requires).add,
      round_trip (shifted_fits (goal.at.returns c).After-clamp-near),
      near_is (goal.at.returns c).After-clamp-near,
    )
