-- The local buffers of a whole run.
--   Full w, full, full_ample    each has 1,024 elements, which is room for the largest block
use Rattle.std.proofs.Common.{◌≡◌, length, arith}
use Rattle.feed_state.specs.Buffers.{Lent}
use Rattle.feed_state.specs.Taken.{Ample}

pub record Full (w : Lent) : Type 0 where
  pub levels : length w.levels ≡ 1024
  pub coeff : length w.buffers.coeff ≡ 1024
  pub inter : length w.buffers.inter ≡ 1024
  pub res : length w.buffers.res ≡ 1024

pub full : (w : Lent) → length w.levels ≡ 1024 → length w.buffers.coeff ≡ 1024 → length w.buffers.inter ≡ 1024 → length w.buffers.res ≡ 1024 → Full w
full w a b c d = record { levels = a; coeff = b; inter = c; res = d }

pub full_ample : (w : Lent) → Full w → Ample w
full_ample w f = record { levels = omega (arith, f.levels); coeff = omega (arith, f.coeff); inter = omega (arith, f.inter); res = omega (arith, f.res) }
