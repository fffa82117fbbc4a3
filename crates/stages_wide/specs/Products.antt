-- Lines in 32-bit products: what passes ask of each other and give.
--   limited_up_to r xs w i    place i of xs, limited to the range; from place w on, zero
--   matrix_value             output j of line c by a matrix, rounded: the line over the values at places c × lead, c × lead + stride, ..
--   Picked n at xs r        r has n values, the k-th of them that of xs at place `at k`
--   RoundNeeds w z s          the first w sums of z leave room for what rounding adds
--   ProductsNeeds             what a pass over lines asks: values of at most 2^22 in size, and places inside x
--   LimitedNeeds              what lines over the first w values of a list ask, limited as they are read
use Rattle.std.specs.Prelude.{◌≡◌, cond, List, ℕ, ◌+◌, ◌*◌, ◌^◌, ◌<◌, ◌≤◌, ltb, ℤ, pos, get_or, length}
use Rattle.integers.specs.Shift.{round_shift}
use Rattle.integers.specs.Within.{Within}
use Rattle.h265.specs.Transform.{transform_line}
use Rattle.stages_wide.specs.Parts.{limited_at}

unfoldable pub limited_up_to : ℕ → List ℤ → ℕ → ℕ → ℤ
limited_up_to r xs w i = cond (ltb i w) (limited_at r xs i) (pos 0)

abbrev pub matrix_value : (ℕ → ℕ → ℤ) → ℕ → (ℕ → ℤ) → ℕ → ℕ → ℕ → ℕ → ℕ → ℤ
matrix_value t n y lead stride s c j = round_shift (transform_line t n (λ k. y (c * lead + k * stride)) j) s

pub record Picked (n : ℕ) (at : ℕ → ℕ) (xs r : List ℤ) : Type 0 where
  pub long : length r ≡ n
  pub same : (k : ℕ) → k < n → get_or r k (pos 0) ≡ get_or xs (at k) (pos 0)

pub record RoundNeeds (w : ℕ) (z : List ℤ) (s : ℕ) : Type 0 where
  pub long : w ≤ length z
  pub room : (j : ℕ) → j < w → Within (480 * 2 ^ 22) (get_or z j (pos 0))
  pub least : 4 ≤ s
  pub most : s ≤ 12

pub record ProductsNeeds (n : ℕ) (x : List ℤ) (lines lead stride s out_length : ℕ) : Type 0 where
  pub reads : (c k : ℕ) → c < lines → k < n → c * lead + k * stride < length x
  pub small : (i : ℕ) → Within (2 ^ 22) (get_or x i (pos 0))
  pub few : lines ≤ n
  pub lead_most : lead ≤ n
  pub shift_least : 4 ≤ s
  pub shift_most : s ≤ 12
  pub room : lines * n ≤ out_length

pub record LimitedNeeds (n lines lead stride s r w source_length out_length : ℕ) : Type 0 where
  pub inside : (c k : ℕ) → c < lines → k < n → c * lead + k * stride < n * n
  pub whole : w ≤ n * n
  pub few : lines ≤ n
  pub lead_most : lead ≤ n
  pub shift_least : 4 ≤ s
  pub shift_most : s ≤ 12
  pub range_most : r ≤ 22
  pub source : w ≤ source_length
  pub room : lines * n ≤ out_length
