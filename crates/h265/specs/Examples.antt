-- The marked examples of the requirements as one list of cases under one statement, with what they do not cover: each entry of level_scale, a
-- level that must be limited first, a level or a result that was limited, a skipped level, a residual beyond the range, a sum beyond 32 bits,
-- and the largest sums of absolute entries, which no wrong entry of F leaves alone.
--   examples       the list of cases
--   ExamplesHold   the statement: every definition gives what is expected of it
use Rattle.std.specs.Prelude.{Bool, true, false, cond, List, [], ◌∷◌, ◌++◌, ℕ, ℤ, pos, negsuc, neg_ℤ, nat_abs, replicate}
use Rattle.integers.specs.Examples.{Case, AllHold, ◌gives◌}
use Rattle.integers.specs.Lists.{tabulate}
use Rattle.h265.specs.Range.{log2_size, transform_range}
use Rattle.h265.specs.Quantization.{qp_prime, clip_qp_prime}
use Rattle.h265.specs.ScalingFactor.{ScalingList, scaling_factor}
use Rattle.h265.specs.ScalingFactor.ScalingList.{flat, listed}
use Rattle.h265.specs.Scaling.{bd_shift, scaled_at}
use Rattle.h265.specs.Limited.{level_limited, result_limited, limited_count}
use Rattle.h265.specs.TransformSkip.{ts_shift, ts_residual, skipped_at}
use Rattle.h265.specs.Matrix.{trans_matrix, dst_matrix, abs_sum}
use Rattle.h265.specs.Transform.{row_order, columns_read, stage_one_sum, stage_one_value, intermediate, residual}

one : ℤ → List ℤ
one z = z ∷ []

range_of : ℕ → Bool → List ℤ
range_of b x = one (pos (transform_range b x))

-- one level at index 0
scaled : ScalingList → ℕ → ℕ → ℤ → ℤ → List ℤ
scaled list n b q level = one (scaled_at list n b false q (one level) 0)

-- of one level, with m: whether the level was limited, and whether its result was
flags : ℕ → Bool → ℕ → ℤ → ℤ → List ℤ
flags b x m q level =
    let r : ℕ = transform_range b x in
    let yes : Bool → ℤ = λ t. cond t (pos 1) (pos 0) in
    yes (level_limited r level)
    ∷ yes (result_limited r (bd_shift b 2 r) (nat_abs (clip_qp_prime b q)) m level)
    ∷ []

-- how many of a 4×4 block, depth 8
limited_of_block : ScalingList → ℤ → List ℤ → List ℤ
limited_of_block list q levels = one (pos (limited_count list 4 8 false q levels))

-- m at an index, of the list that has 20 at entry 0 and 7 elsewhere, with DC 30
factor : ℕ → ℕ → List ℤ
factor n i = one (pos (scaling_factor (listed (20 ∷ replicate 63 7) 30) n i))

shift_of : ℕ → ℕ → Bool → List ℤ
shift_of n b x = one (ts_shift (transform_range b x) b (log2_size n))

-- a 4×4 block with one coefficient
only : ℕ → ℤ → List ℤ
only i z = replicate i (pos 0) ++ z ∷ replicate 15 (pos 0)

-- the 4×4 residual, plain range
rows : (ℕ → ℕ → ℤ) → ℕ → ℕ → List ℤ → List ℤ
rows t b nx d = tabulate 16 (row_order 4 (residual t 4 b (transform_range b false) nx d))

-- 32767 in column 0
full : ℕ → ℕ → ℤ
full k c = columns_read 1 (λ i j. pos 32767) k c

all : ℤ → List ℤ
all z = replicate 16 z

norms : (ℕ → ℕ → ℤ) → ℕ → List ℤ
norms t n = tabulate n (abs_sum t n)

unfoldable pub examples : List (Case (List ℤ))
unfolding one range_of scaled flags limited_of_block factor shift_of only rows full all norms
examples =
    -- R
    (range_of 8 true gives one (pos 15))
    ∷ (range_of 9 true gives one (pos 15))
    ∷ (range_of 10 true gives one (pos 16))
    ∷ (range_of 16 true gives one (pos 22))
    ∷ (range_of 16 false gives one (pos 15))
    -- QP'
    ∷ (one (qp_prime 10 (neg_ℤ (pos 13))) gives one (pos 0))
    ∷ (one (qp_prime 10 (pos 51)) gives one (pos 63))
    ∷ (one (qp_prime 10 (pos 60)) gives one (pos 63))
    -- one level
    ∷ (scaled flat 4 8 (pos 4) (pos 1) gives one (pos 32))
    ∷ (scaled flat 4 8 (pos 4) (neg_ℤ (pos 1)) gives one (neg_ℤ (pos 32)))
    ∷ (scaled flat 4 8 (pos 4) (pos 40000) gives one (pos 32767))
    -- each entry of level_scale: 50 times it
    ∷ (scaled flat 4 8 (pos 0) (pos 100) gives one (pos 2000))
    ∷ (scaled flat 4 8 (pos 1) (pos 100) gives one (pos 2250))
    ∷ (scaled flat 4 8 (pos 2) (pos 100) gives one (pos 2550))
    ∷ (scaled flat 4 8 (pos 3) (pos 100) gives one (pos 2850))
    ∷ (scaled flat 4 8 (pos 4) (pos 100) gives one (pos 3200))
    ∷ (scaled flat 4 8 (pos 5) (pos 100) gives one (pos 3600))
    -- a level that must be limited before it is scaled: 10000 without the limit
    ∷ (scaled (listed (replicate 64 1) 1) 32 8 (pos 4) (pos 40000) gives one (pos 8192))
    -- a level at both borders of the range, with m = 0, so that no result is
    ∷ (flags 8 false 0 (pos 4) (pos 32767) gives (pos 0 ∷ pos 0 ∷ []))
    ∷ (flags 8 false 0 (pos 4) (pos 32768) gives (pos 1 ∷ pos 0 ∷ []))
    ∷ (flags 8 false 0 (pos 4) (neg_ℤ (pos 32768)) gives (pos 0 ∷ pos 0 ∷ []))
    ∷ (flags 8 false 0 (pos 4) (neg_ℤ (pos 32769)) gives (pos 1 ∷ pos 0 ∷ []))
    ∷ (flags 16 true 0 (pos 4) (pos 32768) gives (pos 0 ∷ pos 0 ∷ []))
    ∷ (flags 16 true 0 (pos 4) (pos 4194304) gives (pos 1 ∷ pos 0 ∷ []))
    -- a level in the range, and its result at both borders: 32 times the level
    ∷ (flags 8 false 16 (pos 4) (pos 1023) gives (pos 0 ∷ pos 0 ∷ []))
    ∷ (flags 8 false 16 (pos 4) (pos 1024) gives (pos 0 ∷ pos 1 ∷ []))
    ∷ (flags 8 false 16 (pos 4) (neg_ℤ (pos 1024)) gives (pos 0 ∷ pos 0 ∷ []))
    ∷ (flags 8 false 16 (pos 4) (neg_ℤ (pos 1025)) gives (pos 0 ∷ pos 1 ∷ []))
    -- both
    ∷ (flags 8 false 16 (pos 4) (pos 40000) gives (pos 1 ∷ pos 1 ∷ []))
    -- QP' at both ends, and past them
    ∷ (flags 8 false 16 (pos 0) (pos 1638) gives (pos 0 ∷ pos 0 ∷ []))
    ∷ (flags 8 false 16 (neg_ℤ (pos 9)) (pos 1639) gives (pos 0 ∷ pos 1 ∷ []))
    ∷ (flags 8 false 16 (pos 51) (pos 4) gives (pos 0 ∷ pos 0 ∷ []))
    ∷ (flags 8 false 16 (pos 60) (pos 5) gives (pos 0 ∷ pos 1 ∷ []))
    -- how many of a block: none, three of the four that are not zero, and all
    ∷ (limited_of_block flat (pos 4) (replicate 16 (pos 1023)) gives one (pos 0))
    ∷ (limited_of_block flat (pos 4) (pos 1024 ∷ pos 1023 ∷ neg_ℤ (pos 32769) ∷ pos 40000 ∷ replicate 12 (pos 0)) gives one (pos 3))
    ∷ (limited_of_block flat (pos 4) (replicate 16 (pos 1024)) gives one (pos 16))
    ∷ (limited_of_block (listed (0 ∷ replicate 63 16) 16) (pos 4) (pos 32768 ∷ pos 1024 ∷ replicate 14 (pos 0)) gives one (pos 2))
    -- m
    ∷ (factor 16 0 gives one (pos 30))
    ∷ (factor 16 1 gives one (pos 20))
    ∷ (factor 16 17 gives one (pos 20))
    ∷ (factor 8 0 gives one (pos 20))
    -- t
    ∷ (shift_of 4 8 false gives one (pos 5))
    ∷ (shift_of 4 13 false gives one (pos 0))
    ∷ (shift_of 32 16 false gives one (neg_ℤ (pos 6)))
    ∷ (shift_of 32 16 true gives one (pos 1))
    -- transform skip
    ∷ (one (ts_residual (pos 5) (pos 16)) gives one (pos 1))
    ∷ (one (ts_residual (pos 5) (pos 15)) gives one (pos 0))
    ∷ (one (ts_residual (pos 5) (neg_ℤ (pos 16))) gives one (pos 0))
    ∷ (one (ts_residual (pos 5) (neg_ℤ (pos 17))) gives one (neg_ℤ (pos 1)))
    ∷ (one (ts_residual (neg_ℤ (pos 6)) (pos 3)) gives one (pos 192))
    -- a skipped level: 32 times it, then t = 5
    ∷ (one (skipped_at flat 4 8 false (pos 4) (one (pos 7)) 0) gives one (pos 7))
    -- DCT
    ∷ (rows (trans_matrix 4) 8 4 (only 0 (pos 62)) gives all (pos 0))
    ∷ (rows (trans_matrix 4) 8 4 (only 0 (pos 63)) gives all (pos 1))
    ∷ (rows (trans_matrix 4) 8 4 (only 0 (neg_ℤ (pos 64))) gives all (pos 0))
    ∷ (rows (trans_matrix 4) 8 4 (only 3 (pos 64)) gives
    (let row : List ℤ = pos 0 ∷ negsuc 0 ∷ pos 1 ∷ pos 0 ∷ [] in row ++ (row ++ (row ++ row))))
    ∷ (rows (trans_matrix 4) 8 3 (only 3 (pos 64)) gives all (pos 0))
    -- a residual beyond the range, which is not limited
    ∷ (rows (trans_matrix 4) 16 4 (only 0 (pos 32767)) gives all (pos 65536))
    -- DST
    ∷ (rows dst_matrix 8 4 (only 0 (pos 64)) gives
    (pos 0 ∷ pos 0 ∷ pos 0 ∷ pos 0 ∷ pos 0 ∷ pos 0 ∷ pos 1 ∷ pos 1 ∷ pos 0 ∷ pos 0 ∷ pos 1 ∷ pos 1 ∷ pos 0 ∷ pos 1 ∷ pos 1 ∷ pos 1 ∷ []))
    -- stage one before and after its limit
    ∷ (one (stage_one_value (trans_matrix 4) 4 full 0 0) gives one (pos 63230))
    ∷ (one (intermediate (trans_matrix 4) 4 15 full 0 0) gives one (pos 32767))
    -- the first sum of extended precision that no 32 bits hold
    ∷ (one (stage_one_sum (trans_matrix 32) 32 (λ k c. pos 2097151) 0 0) gives one (pos 3904895162))
    -- the sums of absolute entries, output by output
    ∷ (norms (trans_matrix 4) 4 gives replicate 4 (pos 247))
    ∷ (norms (trans_matrix 8) 8 gives replicate 8 (pos 479))
    ∷ (norms (trans_matrix 16) 16 gives replicate 16 (pos 940))
    ∷ (norms (trans_matrix 32) 32 gives replicate 32 (pos 1862))
    ∷ (norms dst_matrix 4 gives (pos 242 ∷ pos 242 ∷ pos 222 ∷ pos 242 ∷ []))
    ∷ []

unfoldable pub ExamplesHold : Type 0
ExamplesHold = AllHold examples
