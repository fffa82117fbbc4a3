-- `scaling_values::listed::raised` meets its contract: the range's ends, shifted back, fit.
use mathlib.Core.Path.{◌≡◌, ap, ap₂, ◌∙◌}
use Prim.Native.Nat.{ℕ, ◌^◌}
use lib.Dec.{lit<}
use lib.IntN.{ℤ, pos, negsuc}
use lib.Signed.{shr_z}
use mir.Syntax.{w32}
use mir.Val.{SFits, to_z, of_z}
use Rattle.integers.specs.Shift.{shift_right}
use Rattle.integers.proofs.MachineLaws.{round_trip, sfits_shr}
use Rattle.scaling_values.specs.declared.ListedParams.{ListedParams}
use Rattle.scaling_values.proofs.listed.raised.Goals as goal

abbrev numbers : ℕ → ℤ → ℤ → ℤ → ListedParams
numbers up base low top = record { base = base; add = pos 0; down = 0; up = up; low = low; top = top }

trip : (z : ℤ) (u : ℕ) → SFits w32 z → to_z w32 (of_z w32 (shr_z z (2 ^ u))) ≡ shr_z z (2 ^ u)
trip z u f = round_trip (sfits_shr (2 ^ u) f)

pub returns : goal.returns
unfolding shift_right
returns c =
    let u = c.args.up in
    ap (λ (b : ℤ). numbers u b (to_z w32 (of_z w32 (shr_z (negsuc 32767) (2 ^ u)))) (to_z w32 (of_z w32 (shr_z (pos 32767) (2 ^ u))))) (round_trip c.ranges.base)
    ∙ ap₂ (numbers u c.args.base) (trip (negsuc 32767) u (record { sfits = lit< tt })) (trip (pos 32767) u (record { sfits = lit< tt }))
