-- A number limited to a range.
--   clip3 lo hi x   x, or the end of lo .. hi that is nearest to it
use Rattle.std.specs.Prelude.{cond, ℤ}
use Rattle.std.specs.Int.Signed.{lt_z}

unfoldable pub clip3 : ℤ → ℤ → ℤ → ℤ
clip3 lo hi x = cond (lt_z x lo) lo (cond (lt_z hi x) hi x)
