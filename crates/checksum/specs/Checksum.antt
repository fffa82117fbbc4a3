-- The checksum of a decoded picture. H.265, Annex D, decoded picture hash, checksum form.
-- Letters: b depth, x column, y row, s sample, m mask.
--   xor_mask x y          (x mod 256) xor (y mod 256) xor (x div 256) xor (y div 256)
--   sample_term b s m     what a sample adds: its low byte xor the mask, at depths above 8 its high byte xor the mask too
--   total k f            f 0 + f 1 + .. + f (k - 1)
--   row_total             what a row adds
--   picture_checksum      the sum over the samples of a picture, modulo 2^32
--   checksummed          the same below the refusals, rows 2 and 13
--   run_term              what the k-th sample of a run of columns adds, whose first has mask m: for the functions below the refusals
use Rattle.std.specs.Prelude.{ℕ, zero, suc, ◌+◌, ◌*◌, ◌/◌, ◌%◌, ◌^◌, cond, List, length, bit_xor, nat_lt, slice_index}
use Rattle.refusal.specs.declared.Refusal.TheVariants.{DepthInvalid, PictureInvalid}
use Rattle.refusal.specs.Condition.{depth_refused}
use Rattle.refusal.specs.Outcome.{Outcome, accepted, refused}
use Rattle.planes.specs.Picture.{picture_refused}

unfoldable pub xor_mask : ℕ → ℕ → ℕ
xor_mask x y = bit_xor (bit_xor (bit_xor (x % 256) (y % 256)) (x / 256)) (y / 256)

unfoldable pub sample_term : ℕ → ℕ → ℕ → ℕ
sample_term b s m = bit_xor (s % 256) m + cond (nat_lt 8 b) (bit_xor (s / 256) m) 0

unfoldable pub total : ℕ → (ℕ → ℕ) → ℕ
total zero f = 0
total (suc k) f = total k f + f k

-- what the sample in column x of row y adds; the row's first sample stands at `first`
unfoldable pub column_term : ℕ → ℕ → ℕ → List ℕ → ℕ → ℕ
column_term b first y plane x = sample_term b (slice_index plane (first + x)) (xor_mask x y)

unfoldable pub row_total : ℕ → ℕ → ℕ → ℕ → List ℕ → ℕ
row_total b width first y plane = total width (column_term b first y plane)

unfoldable pub picture_checksum : ℕ → ℕ → ℕ → ℕ → List ℕ → ℕ
picture_checksum b width height stride plane = total height (λ y. row_total b width (y * stride) y plane) % 2 ^ 32

unfoldable pub checksummed : ℕ → ℕ → ℕ → ℕ → List ℕ → Outcome ℕ
checksummed b width height stride plane =
    cond (depth_refused b) (refused 0 DepthInvalid)
    (cond (picture_refused width height stride (length plane)) (refused 0 PictureInvalid)
    (accepted (picture_checksum b width height stride plane)))

unfoldable pub run_term : ℕ → ℕ → List ℕ → ℕ → ℕ
run_term b m run k = sample_term b (slice_index run k) (bit_xor k m)
