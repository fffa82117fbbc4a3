-- `scaling_blocks::spread::copy_row` meets its contract. The loop's invariant: the first c entries of the row have become those above them.
use mathlib.Core.Path.{refl, ◌∙◌}
use Prim.Native.Nat.{◌+◌, ◌-◌, ◌*◌, ◌≤◌}
use native.Mathlib.Nat.{mul-le-mul, le_refl}
use native.Mathlib.Omega.{arith}
use lib.Arith.{digits_lt}
use lib.ListN.{get_or, length-set}
use Rattle.scaling_blocks.proofs.WorkLaws.{row_small, fills_none, fills_copy}
use Rattle.scaling_blocks.proofs.spread.copy_row.Goals as goal
use Rattle.scaling_blocks.proofs.spread.copy_row.Goals.{Start}

-- the row begins after the one above it
row_least : (s : Start) → 1 * s.args.n ≤ s.args.row * s.args.n
row_least s = mul-le-mul s.requires.le_row.0 (le_refl s.args.n)

pub overflow_mul-at : goal.overflow_mul-at
overflow_mul-at c = omega (arith, row_small c.requires.n_bound c.requires.le_row.1)

pub overflow_sub-above : goal.overflow_sub-above
overflow_sub-above c = omega (arith, row_least c)

pub loop-c-init : goal.loop-c-init
loop-c-init c = (omega arith, record { same = refl; fills = λ f h. fills_none (omega arith) })

pub overflow_add-entries : goal.overflow_add-entries
overflow_add-entries c = omega (arith, row_small c.requires.n_bound c.requires.le_row.1, c.requires.n_bound, c.loop-c-test.true)

pub bounds-entries-above : goal.bounds-entries-above
bounds-entries-above c = omega (arith, digits_lt c.requires.le_row.1 c.loop-c-test.true, row_least (goal.at.bounds-entries-above c).Start, c.loop-c.invariant.1.same, c.requires.n_in_bounds)

pub overflow_add-entries-in-loop-c : goal.overflow_add-entries-in-loop-c
overflow_add-entries-in-loop-c c = omega (arith, row_small c.requires.n_bound c.requires.le_row.1, c.requires.n_bound, c.loop-c-test.true)

pub bounds-entries-at : goal.bounds-entries-at
bounds-entries-at c = omega (arith, digits_lt c.requires.le_row.1 c.loop-c-test.true, c.loop-c.invariant.1.same, c.requires.n_in_bounds)

pub loop-c-preserved : goal.loop-c-preserved
loop-c-preserved c =
    let l = c in
    let n = l.args.n in
    let first = l.args.row * n in (
      omega arith,
      record {
        same = length-set l.loop-c.entries (first + l.loop-c.c) (get_or l.loop-c.entries (first - n + l.loop-c.c) 0) ∙ l.loop-c.invariant.1.same;
        fills =
            λ f h.
            fills_copy (l.loop-c.invariant.1.fills f h) (first + (l.loop-c.c + 1)) (first - n + l.loop-c.c) (omega arith) (omega (arith, digits_lt c.requires.le_row.1 c.loop-c-test.true, l.requires.n_in_bounds))
            (omega (arith, row_least (goal.at.loop-c-preserved c).Start, c.loop-c-test.true)) (h l.loop-c.c c.loop-c-test.true);
      },
    )

pub shape_of-entries : goal.shape_of-entries
shape_of-entries c = c.loop-c.invariant.1.same
