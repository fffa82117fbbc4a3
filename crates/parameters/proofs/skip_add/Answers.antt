-- `parameters::skip_add` meets its contract: t above 0 is one more than what 1 is shifted by.
use mathlib.Core.Path.{◌≡◌, refl, ap, ◌∙◌}
use Prim.Native.Nat.{zero, suc, ◌-◌}
use native.Mathlib.Omega.{arith}
use lib.IntN.{ℤ, pos, negsuc, nat_abs, ◌-ℤ◌}
use lib.Signed.{◌≤ℤ◌, ◌<ℤ◌}
use mir.Syntax.{w32}
use mir.Val.{to_z, of_z}
use Rattle.integers.specs.Shift.{pow2}
use Rattle.integers.proofs.LinearLaws.{parts_ext, parts_add, le_in}
use Rattle.integers.proofs.MachineLaws.{round_trip, lt_z_true, lt_z_false, shl_one, sfits_abs}
use Rattle.parameters.specs.Parameters.{ts_add}
use Rattle.parameters.proofs.skip_add.Goals as goal
use Rattle.parameters.proofs.skip_add.Goals.{Then-t-gt0}

-- t - 1 of a t above 0
less_one : (t : ℤ) → pos 0 <ℤ t → t -ℤ pos 1 ≡ pos (nat_abs t - 1)
less_one (pos zero) h = absurd h.lt
less_one (pos (suc k)) h = parts_ext (pos (suc k) -ℤ pos 1) (pos (suc k - 1)) (omega (arith, parts_add (pos (suc k)) (negsuc 0)))
less_one (negsuc k) h = absurd h.lt

add_above : (t : ℤ) → pos 0 <ℤ t → pow2 (nat_abs t - 1) ≡ ts_add t
unfolding ts_add
add_above (pos zero) h = absurd h.lt
add_above (pos (suc k)) h = ap pow2 (let e : suc k - 1 ≡ k = omega arith in e)
add_above (negsuc k) h = absurd h.lt

add_none : (t : ℤ) → t ≤ℤ pos 0 → pos 0 ≡ ts_add t
unfolding ts_add
add_none (pos zero) h = refl
add_none (pos (suc k)) h = absurd (let e : ⊥ = omega (arith, le_in h) in e)
add_none (negsuc k) h = refl

above : (c : Then-t-gt0) → pos 0 <ℤ c.args.t
above c = lt_z_true (rw (round_trip c.ranges.t) at c.if-t-gt0.true)

pub overflow_sub-result : goal.overflow_sub-result
overflow_sub-result c =
    rw (round_trip c.ranges.t, less_one c.args.t (above c)) (sfits_abs (omega (arith, c.requires)))

-- what the machine reads back
shift_is : (c : Then-t-gt0) → to_z w32 (of_z w32 (to_z w32 (of_z w32 c.args.t) -ℤ pos 1)) ≡ pos (nat_abs c.args.t - 1)
shift_is c = round_trip (overflow_sub-result c) ∙ rw (round_trip c.ranges.t) (less_one c.args.t (above c))

pub returns-then-t-gt0 : goal.returns-then-t-gt0
returns-then-t-gt0 c = rw (shift_is c) (shl_one w32 (nat_abs c.args.t - 1) (omega (arith, c.requires)) ∙ add_above c.args.t (above c))

pub returns : goal.returns
returns c = add_none c.args.t (lt_z_false (rw (round_trip c.ranges.t) at c.if-t-gt0.false))
