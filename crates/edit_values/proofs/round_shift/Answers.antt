-- `edit_values::round_shift` meets its contract: half a step is at most 2^11, so that the sum fits.
use mir.Syntax.{w64}
use mathlib.Core.Path.{◌∙◌}
use Prim.Native.Nat.{◌-◌}
use native.Mathlib.Omega.{arith}
use borrow.Author.Rules.{sfits_of}
use lib.Pow.{pow_mono}
use Rattle.integers.specs.Shift.{round_shift}
use Rattle.integers.proofs.MachineLaws.{round_trip}
use Rattle.integers.proofs.BoundLaws.{within_add, within_pos, within_fits}
use Rattle.edit_values.proofs.round_shift.Goals as goal
use Rattle.edit_values.proofs.round_shift.Goals.{After-pow2}

pub overflow_add-x : goal.overflow_add-x
overflow_add-x c =
    let s = c in
    rw (round_trip s.ranges.x, round_trip (sfits_of c.pow2.type_inv), c.pow2.ensures)
    (within_fits {b = 18312333312} tt (within_add s.requires.0 (within_pos {b = 2048} (pow_mono {i = s.args.s - 1} {j = 11} (omega (arith, s.requires))))))

pub returns : goal.returns
unfolding round_shift
returns c =
    let d = c in
    let s = d in
    round_trip {w = w64} (sfits_of c.shift_right.type_inv)
    ∙ (rw (round_trip (overflow_add-x (goal.at.returns c).After-pow2), round_trip s.ranges.x, round_trip (sfits_of d.pow2.type_inv), d.pow2.ensures) at c.shift_right.ensures)
