-- `scaling_blocks::spread::spread_row` meets its contract. The loop's invariant: entries that are laid out below the row are laid out c further.
use mathlib.Core.Path.{◌≡◌, ap}
use Prim.Native.Nat.{ℕ, ◌+◌, ◌*◌, ◌/◌, ◌^◌, ◌<◌}
use native.Mathlib.Nat.{div-le_self}
use native.Mathlib.Omega.{arith}
use lib.Arith.{digits_lt}
use lib.ListN.{get_or}
use Rattle.h265.specs.ScalingFactor.{repeated_position}
use Rattle.scaling_values.specs.Work.{spread_at}
use Rattle.scaling_values.proofs.FactorLaws.{position_inside}
use Rattle.scaling_blocks.proofs.WorkLaws.{laid_small, laid_few}
use Rattle.scaling_blocks.proofs.WorkLaws.{row_small, row_position, fills_none, fills_more, fills_to}
use Rattle.scaling_blocks.proofs.spread.spread_row.Goals as goal
use Rattle.scaling_blocks.proofs.spread.spread_row.Goals.{In-loop-c}

-- the position of the index at a column
position_is : (c : In-loop-c)
    → c.args.row / 2 ^ c.args.repeats * 8 + c.loop-c.c / 2 ^ c.args.repeats ≡ repeated_position c.args.n (c.args.row * c.args.n + c.loop-c.c)
position_is c =
    row_position c.args.n c.args.repeats c.args.row c.loop-c.c c.requires.laid.rows c.loop-c-test.true

inside : (c : In-loop-c) → c.args.row / 2 ^ c.args.repeats * 8 + c.loop-c.c / 2 ^ c.args.repeats < 64
inside c =
    omega (arith, position_is c, position_inside c.args.n (c.args.row * c.args.n + c.loop-c.c) c.requires.laid.rows.size (digits_lt c.requires.row_lt_n c.loop-c-test.true) c.requires.laid.rows.large)

pub overflow_mul-at : goal.overflow_mul-at
overflow_mul-at c = omega (arith, row_small (laid_small c.requires.laid) c.requires.row_lt_n)

pub overflow_shr-entry : goal.overflow_shr-entry
overflow_shr-entry c = omega (arith, laid_few c.requires.laid)

pub overflow_mul-entry : goal.overflow_mul-entry
overflow_mul-entry c = omega (arith, div-le_self c.args.row (2 ^ c.args.repeats), c.requires.row_lt_n, laid_small c.requires.laid)

pub loop-c-init : goal.loop-c-init
loop-c-init c = fills_none (omega arith)

pub overflow_shr-entries : goal.overflow_shr-entries
overflow_shr-entries c = omega (arith, laid_few c.requires.laid)

pub overflow_add-entries : goal.overflow_add-entries
overflow_add-entries c = omega (arith, inside c)

pub bounds-list-entry : goal.bounds-list-entry
bounds-list-entry c = omega (arith, inside (goal.at.bounds-list-entry c).In-loop-c, c.requires.laid.whole)

pub overflow_add-entries-in-loop-c : goal.overflow_add-entries-in-loop-c
overflow_add-entries-in-loop-c c = omega (arith, row_small (laid_small c.requires.laid) c.requires.row_lt_n, laid_small c.requires.laid, c.loop-c-test.true)

pub bounds-entries-at : goal.bounds-entries-at
bounds-entries-at c = omega (arith, digits_lt c.requires.row_lt_n c.loop-c-test.true, c.loop-c.invariant.same, c.requires.laid.room)

pub loop-c-preserved : goal.loop-c-preserved
unfolding spread_at
loop-c-preserved c =
    fills_more c.loop-c.invariant (c.args.row * c.args.n + (c.loop-c.c + 1)) (omega arith) (omega (arith, digits_lt c.requires.row_lt_n c.loop-c-test.true, c.requires.laid.room)) (ap (λ (k : ℕ). get_or c.args.list.now k 0) (position_is (goal.at.loop-c-preserved c).In-loop-c))

pub shape_of-entries : goal.shape_of-entries
shape_of-entries c = c.loop-c.invariant.same

pub returns : goal.returns
returns c =
    fills_to c.loop-c.invariant (ap (λ (k : ℕ). c.args.row * c.args.n + k) (omega arith))
