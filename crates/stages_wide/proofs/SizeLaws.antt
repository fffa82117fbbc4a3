-- A law of sizes.
--   size_fours      a size is a multiple of 4
use mathlib.Core.Path.{◌≡◌, refl}
use Prim.Native.Nat.{ℕ, ◌*◌, ◌/◌}
use lib.Dec.{T}
use Rattle.h265.specs.Range.{is_size}
use Rattle.h265.proofs.RangeLaws.{size_cases}

pub size_fours : (n : ℕ) → T (is_size n) → 4 * (n / 4) ≡ n
size_fours n t = size_cases (λ m. 4 * (m / 4) ≡ m) refl refl refl refl n t
