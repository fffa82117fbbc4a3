-- Laws of the two stages: each reads only what its size says, and blocks are read back as they were written.
--   transform_line_cong, intermediate_cong, stage_two_cong   equal inputs at the places that are read
--   intermediate_clipped     an intermediate value lies in the range
--   cell_row, cell_column    an index of a block has a row and a column of it
--   row_order_cong            equal functions at the places of a block
--   row_order-at              a function in row order, at a row and a column
--   block_at_overwrite, block_at_append   what stands at a row and a column of a block that was written, or that begins a list
--   columns_read_in           a column below the count
use mathlib.Core.Path.{◌≡◌, ap, ap₂, ◌∙◌}
use mathlib.Core.List.{List, ◌++◌}
use Prim.Native.Nat.{ℕ, zero, suc, ◌+◌, ◌*◌, ◌/◌, ◌%◌, ◌<◌}
use native.Mathlib.Nat.{mod-lt, div-lt_iff_lt-mul, not-suc-le-zero}
use native.Mathlib.Omega.{arith}
use borrow.Author.Tests.{lt-ltb}
use lib.Arith.{digits_lt, digits_div, digits_mod}
use lib.IntN.{ℤ, pos, ◌*ℤ◌}
use lib.ListN.{length, get_or-append}
use Rattle.integers.specs.Lists.{overwrite}
use Rattle.integers.specs.Shift.{round_shift}
use Rattle.integers.proofs.ClipLaws.{clip3_idem}
use Rattle.integers.proofs.ListsLaws.{overwrite-get_or}
use Rattle.integers.proofs.SumLaws.{sum_cong}
use Rattle.h265.specs.Range.{clip_coeff, coeff_min, coeff_max}
use Rattle.h265.specs.Transform.{transform_line, block_at, row_order, columns_read, stage_one_sum, stage_one_value, intermediate, stage_two_sum, stage_two}
use Rattle.h265.proofs.RangeLaws.{coeff_min-≤-coeff_max}

module _ (t : ℕ → ℕ → ℤ) (n : ℕ) where
  pub transform_line_cong : (y z : ℕ → ℤ) (m : ℕ) → ((k : ℕ) → k < n → y k ≡ z k) → transform_line t n y m ≡ transform_line t n z m
  unfolding transform_line
  transform_line_cong y z m h = sum_cong n (λ k. t k m *ℤ y k) (λ k. t k m *ℤ z k) (λ k l. ap (λ (v : ℤ). t k m *ℤ v) (h k l))

  pub intermediate_cong : (r : ℕ) (d e : ℕ → ℕ → ℤ) (m c : ℕ) → ((k : ℕ) → k < n → d k c ≡ e k c) → intermediate t n r d m c ≡ intermediate t n r e m c
  unfolding intermediate stage_one_value stage_one_sum
  intermediate_cong r d e m c h =
      ap (λ (v : ℤ). clip_coeff r (round_shift v 7)) (transform_line_cong (λ k. d k c) (λ k. e k c) m h)

  pub stage_two_cong : (s : ℕ) (g f : ℕ → ℕ → ℤ) (m j : ℕ) → ((c : ℕ) → c < n → g m c ≡ f m c) → stage_two t n s g m j ≡ stage_two t n s f m j
  unfolding stage_two stage_two_sum
  stage_two_cong s g f m j h = ap (λ (v : ℤ). round_shift v s) (transform_line_cong (λ c. g m c) (λ c. f m c) j h)

  pub intermediate_clipped : (r : ℕ) (d : ℕ → ℕ → ℤ) (m c : ℕ) → clip_coeff r (intermediate t n r d m c) ≡ intermediate t n r d m c
  unfolding intermediate clip_coeff
  intermediate_clipped r d m c = clip3_idem (coeff_min r) (coeff_max r) (stage_one_value t n d m c) (coeff_min-≤-coeff_max r)

-- ---- places of a block
some : (n i : ℕ) → i < n * n → 0 < n
some zero i h = absurd (not-suc-le-zero h)
some (suc n) i h = omega arith

pub cell_row : (n i : ℕ) → i < n * n → i / n < n
cell_row n i h = (div-lt_iff_lt-mul (some n i h)).1 h

pub cell_column : (n i : ℕ) → i < n * n → i % n < n
cell_column n i h = mod-lt i (some n i h)

pub row_order_cong : (n : ℕ) (g f : ℕ → ℕ → ℤ) → ((m c : ℕ) → m < n → c < n → g m c ≡ f m c) → (i : ℕ) → i < n * n → row_order n g i ≡ row_order n f i
unfolding row_order
row_order_cong n g f h i l = h (i / n) (i % n) (cell_row n i l) (cell_column n i l)

pub row_order-at : (n : ℕ) (g : ℕ → ℕ → ℤ) (m c : ℕ) → c < n → row_order n g (m * n + c) ≡ g m c
unfolding row_order
row_order-at n g m c h = ap₂ g (digits_div m {m = n} {r = c} h) (digits_mod m {m = n} {r = c} h)

pub block_at_overwrite : (n : ℕ) (g : ℕ → ℕ → ℤ) (xs : List ℤ) (m c : ℕ) → m < n → c < n → block_at n (overwrite (n * n) (row_order n g) xs) m c ≡ g m c
unfolding block_at
block_at_overwrite n g xs m c hm hc =
    overwrite-get_or (n * n) (row_order n g) xs (m * n + c) (pos 0) (digits_lt {q = m} {m = n} {r = c} {c = n} hm hc) ∙ row_order-at n g m c hc

pub block_at_append : (n : ℕ) (d xs : List ℤ) (k c : ℕ) → length d ≡ n * n → k < n → c < n → block_at n (d ++ xs) k c ≡ block_at n d k c
unfolding block_at
block_at_append n d xs k c e hk hc =
    get_or-append d xs (pos 0) (k * n + c) (rw e (digits_lt {q = k} {m = n} {r = c} {c = n} hk hc))

pub columns_read_in : (nx : ℕ) (d : ℕ → ℕ → ℤ) (k c : ℕ) → c < nx → columns_read nx d k c ≡ d k c
unfolding columns_read
columns_read_in nx d k c h = rw (lt-ltb c nx h)
