-- Both stages for every range from 15 to 22: what the functions ask, and a block with one column replaced. docs/RULES.md, "Inverse
-- transforms". Letters as in h265's Transform: n size, b depth, r range, k row, c column.
--   column_replaced n c f xs   xs with f 0, .., f (n - 1) down column c of its block of n rows; all else as in xs
--   limited_block r n xs       what a block in row order holds at a row and a column, limited to the range
--   WideNeeds                   size, kind and range are right, and both lists hold a block
--   DepthNeeds                  the depth fits the range: the shift of stage two is 4 to 12
--   CoeffsInRange             the coefficients of the columns read lie in the range
use Rattle.std.specs.Prelude.{◌≡◌, ◌&&◌, cond, List, ℕ, ◌+◌, ◌-◌, ◌*◌, ◌/◌, ◌%◌, ◌<◌, ◌≤◌, T, ltb, eqb, ℤ, pos, get_or, length, ◌≤ℤ◌}
use Rattle.integers.specs.Lists.{tabulate}
use Rattle.h265.specs.Range.{is_size, clip_coeff, coeff_min, coeff_max}
use Rattle.h265.specs.Transform.{block_at}
use Rattle.transform_1d.specs.declared.Kind.{Kind}
use Rattle.transform_1d.specs.declared.Kind.TheVariants.{Dst}

unfoldable pub column_replaced : ℕ → ℕ → (ℕ → ℤ) → List ℤ → List ℤ
column_replaced n c f xs = tabulate (length xs) (λ i. cond (eqb (i % n) c && ltb (i / n) n) (f (i / n)) (get_or xs i (pos 0)))

abbrev pub limited_block : ℕ → ℕ → List ℤ → ℕ → ℕ → ℤ
limited_block r n xs k c = clip_coeff r (block_at n xs k c)

pub record WideNeeds (kind : Kind) (n r : ℕ) (source_length target_length : ℕ) : Type 0 where
  pub size : T (is_size n)
  pub dst : kind ≡ Dst → n ≡ 4
  pub least : 15 ≤ r
  pub most : r ≤ 22
  pub source : n * n ≤ source_length
  pub room : n * n ≤ target_length

pub record DepthNeeds (b r : ℕ) : Type 0 where
  pub least : 8 ≤ b
  pub most : b ≤ 16
  pub above : r ≤ b + 7
  pub below : 4 ≤ r + 5 - b

pub record CoeffsInRange (r n nx : ℕ) (coeff : List ℤ) : Type 0 where
  pub columns : nx ≤ n
  pub at : (k c : ℕ) → k < n → c < nx → (coeff_min r ≤ℤ get_or coeff (k * n + c) (pos 0)) × (get_or coeff (k * n + c) (pos 0) ≤ℤ coeff_max r)
