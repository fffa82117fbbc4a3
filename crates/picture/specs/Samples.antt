-- Rebuilt samples: prediction plus residual, limited to the depth's range, at their places in a plane. H.265, clause 8.6, picture construction.
-- Letters: n size, b depth, x and y column and row of the block's first sample.
--   sample_max b             the largest sample, 2^b - 1
--   rebuilt_sample top p z   p + z limited to 0 .. top: the sum is of integers, whatever z is
--   rebuilt_at               the sample at an index of a block in row order
--   placed_at                a block of h rows and n columns put into a plane, by the plane's index
--   rebuilt_plane            the plane with the rebuilt samples of a block, all others as lent
--   first_above top k xs     row 12: the first of k samples that is above top, and k where there is none
use Rattle.std.specs.Prelude.{Bool, ◌&&◌, cond, List, ℕ, ◌+◌, ◌-◌, ◌*◌, ◌/◌, ◌%◌, ◌^◌, ltb, leb, ℤ, pos, nat_abs, ◌+ℤ◌, length, get_or}
use Rattle.integers.specs.Clip.{clip3}
use Rattle.integers.specs.Lists.{tabulate}
use Rattle.integers.specs.Search.{first_where}

unfoldable pub sample_max : ℕ → ℕ
sample_max b = 2 ^ b - 1

-- the limited sum is never negative, so that its size is the sum itself
unfoldable pub rebuilt_sample : ℕ → ℕ → ℤ → ℕ
rebuilt_sample top p z = nat_abs (clip3 (pos 0) (pos top) (pos p +ℤ z))

unfoldable pub rebuilt_at : ℕ → List ℤ → List ℕ → ℕ → ℕ
rebuilt_at top residual prediction i = rebuilt_sample top (get_or prediction i 0) (get_or residual i (pos 0))

-- i is one of k numbers from `first` on
unfoldable pub among : ℕ → ℕ → ℕ → Bool
among first k i = leb first i && ltb i (first + k)

-- the plane's element i stands in row i div stride and column i mod stride
unfoldable pub placed_at : ℕ → ℕ → ℕ → ℕ → ℕ → (ℕ → ℕ) → List ℕ → ℕ → ℕ
placed_at h n stride x y f plane i =
    cond (among y h (i / stride) && among x n (i % stride))
    (f ((i / stride - y) * n + (i % stride - x)))
    (get_or plane i 0)

unfoldable pub rebuilt_plane : ℕ → ℕ → List ℤ → List ℕ → ℕ → ℕ → ℕ → List ℕ → List ℕ
rebuilt_plane n b residual prediction stride x y plane =
    tabulate (length plane) (placed_at n n stride x y (rebuilt_at (sample_max b) residual prediction) plane)

unfoldable pub first_above : ℕ → ℕ → List ℕ → ℕ
first_above top k xs = first_where k (λ i. ltb top (get_or xs i 0))
