-- `picture::rebuild::sample_max` meets its contract: 2^16 fits 32 bits, and one less 16.
use mathlib.Core.Path.{◌≡◌, ap}
use Prim.Native.Nat.{ℕ, ◌-◌, ◌*◌, ◌%◌, ◌^◌, ◌≤◌}
use native.Mathlib.Nat.{one-mul, mod-eq_of_lt}
use native.Mathlib.Omega.{arith}
use lib.Pow.{pow_mono}
use Rattle.picture.specs.Samples.{sample_max}
use Rattle.picture.proofs.rebuild.sample_max.Goals as goal

power_is : (b : ℕ) → b ≤ 16 → (1 * 2 ^ b) % 4294967296 ≡ 2 ^ b
power_is b h = rw (one-mul (2 ^ b)) (mod-eq_of_lt (omega (arith, pow_mono h)))

pub returns : goal.returns
unfolding sample_max
returns c = ap (λ (k : ℕ). k - 1) (power_is c.args.bit_depth c.requires)
