-- Transform skip. docs/RULES.md, "Transform skip"; H.265, clause 8.6.2, range extensions.
--   ts_shift r b l     t = R - B - L, which may be negative
--   ts_residual t c    (c + 2^(t-1)) >> t for t > 0, c for t = 0, c × 2^(-t) for t < 0
--   skipped_at         the residual at an index of a block of levels
-- The same in the clause's own terms, a shift to the left and then one to the right:
--   clause_bd_shift b x     bd_shift: the larger of 20 - B and, with extended precision, 11
--   clause_ts_shift b x l   ts_shift: 5, with extended precision at most bd_shift - 2, plus L
--   clause_residual        ((c << ts_shift) + 2^(bdShift-1)) >> bd_shift
--   SkipIsTheClauses      the statement: at every size, depth and flag the one shift by t gives what the clause's two give
use Rattle.std.specs.Prelude.{◌≡◌, Bool, cond, List, ℕ, zero, suc, ◌+◌, ◌-◌, min, max, ◌≤◌, T, ℤ, pos, negsuc, ◌-ℤ◌, ◌*ℤ◌}
use Rattle.integers.specs.Shift.{pow2, round_shift}
use Rattle.h265.specs.Range.{is_size, log2_size, transform_range}
use Rattle.h265.specs.ScalingFactor.{ScalingList}
use Rattle.h265.specs.Scaling.{scaled_at}

unfoldable pub ts_shift : ℕ → ℕ → ℕ → ℤ
ts_shift r b l = pos r -ℤ pos (b + l)

unfoldable pub ts_residual : ℤ → ℤ → ℤ
ts_residual (pos zero) c = c
ts_residual (pos (suc t)) c = round_shift c (suc t)
ts_residual (negsuc t) c = c *ℤ pow2 (suc t)

unfoldable pub skipped_at : ScalingList → ℕ → ℕ → Bool → ℤ → List ℤ → ℕ → ℤ
skipped_at list n b x q levels i =
    ts_residual (ts_shift (transform_range b x) b (log2_size n)) (scaled_at list n b x q levels i)

unfoldable pub clause_bd_shift : ℕ → Bool → ℕ
clause_bd_shift b x = max (20 - b) (cond x 11 0)

unfoldable pub clause_ts_shift : ℕ → Bool → ℕ → ℕ
clause_ts_shift b x l = cond x (min 5 (clause_bd_shift b x - 2)) 5 + l

unfoldable pub clause_residual : ℕ → Bool → ℕ → ℤ → ℤ
clause_residual b x l c = round_shift (c *ℤ pow2 (clause_ts_shift b x l)) (clause_bd_shift b x)

abbrev pub SkipIsTheClauses : Type 0
SkipIsTheClauses =
    (n b : ℕ) (x : Bool) (c : ℤ) → T (is_size n) → 8 ≤ b → b ≤ 16
    → ts_residual (ts_shift (transform_range b x) b (log2_size n)) c ≡ clause_residual b x (log2_size n) c
