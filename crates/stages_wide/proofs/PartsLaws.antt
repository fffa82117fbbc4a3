-- Laws of limited values.
--   limited_within   a limited value is at most 2^22 in size
use Prim.Native.Nat.{ℕ, ◌^◌, ◌≤◌}
use lib.IntN.{ℤ}
use lib.Pow.{pow_mono}
use Rattle.integers.specs.Within.{Within}
use Rattle.integers.proofs.BoundLaws.{within_le}
use Rattle.h265.specs.Range.{clip_coeff}
use Rattle.h265.proofs.RangeLaws.{clip_coeff_within}

pub limited_within : {r : ℕ} (z : ℤ) → r ≤ 22 → Within (2 ^ 22) (clip_coeff r z)
limited_within {r} z h = within_le (pow_mono h) (clip_coeff_within r z)
