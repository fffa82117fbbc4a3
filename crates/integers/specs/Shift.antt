-- Right shifts of integers, which round down: `le_shift_right` of proofs/ShiftLaws.antt says a ≤ x >> s exactly when a × 2^s ≤ x.
--   pow2 s           2^s, as an integer
--   shift_right x s   x >> s: the largest integer that is at most x / 2^s
--   round_shift x s   (x + 2^(s-1)) >> s, for s from 1 on
use Rattle.std.specs.Prelude.{ℕ, ◌-◌, ◌^◌, ℤ, pos, ◌+ℤ◌}
use Rattle.std.specs.Int.Signed.{shr_z}

abbrev pub pow2 : ℕ → ℤ
pow2 s = pos (2 ^ s)

unfoldable pub shift_right : ℤ → ℕ → ℤ
shift_right x s = shr_z x (2 ^ s)

unfoldable pub round_shift : ℤ → ℕ → ℤ
round_shift x s = shift_right (x +ℤ pow2 (s - 1)) s
