-- Stages: lines over columns of a block, rounded, as rows.
--   first_rows q n xs        the first q rows of xs, which are n long, as a block: its later rows are zero, since a list reads as zero past its end
--   line_by t n h s xs c m   output m of the line by the n-point matrix t over column c of xs, with h added, shifted by s
--   line_value n h s xs c m   the same by the DCT's matrix
--   paired f j xs m          output m of line j, where outputs 2i and 2i + 1 of four lines stand side by side in element i of xs
--   Head q n xs c r          r is the first q values of column c of xs, whose rows are n long
--   Values n xs c r          r reads as column c
--   Block at n e f w ys zs   zs is ys with e values of each of w rows, the first from place at on, and rows n apart
--   PartNeeds e w at n out_length   what parts of e values of each of w rows ask
--   StageSize q n           n points, of which q rows are there
--   LineSize n              a line of n outputs is of whole parts
--   StageNeeds, StageGives     what a stage asks, and what it gives: lines as rows, each value as f makes it
use Rattle.std.specs.Prelude.{◌≡◌, List, ℕ, ◌+◌, ◌*◌, ◌/◌, ◌%◌, ◌^◌, ◌<◌, ◌≤◌, T, ℤ, pos, ◌+ℤ◌, get_or, length}
use Rattle.integers.specs.Lists.{tabulate}
use Rattle.integers.specs.Shift.{shift_right}
use Rattle.integers.specs.Within.{Within}
use Rattle.h265.specs.Matrix.{trans_matrix}
use Rattle.h265.specs.Range.{is_size}
use Rattle.h265.specs.Transform.{transform_line, block_at}
use Rattle.transform_1d.specs.Rows.{Filled}
use Rattle.vectors.specs.Lanes.{column}

unfoldable pub first_rows : ℕ → ℕ → List ℤ → List ℤ
first_rows q n xs = tabulate (q * n) (λ i. get_or xs i (pos 0))

unfoldable pub line_by : (ℕ → ℕ → ℤ) → ℕ → ℤ → ℕ → List ℤ → ℕ → ℕ → ℤ
line_by t n h s xs c m = shift_right (transform_line t n (λ k. block_at n xs k c) m +ℤ h) s

abbrev pub line_value : ℕ → ℤ → ℕ → List ℤ → ℕ → ℕ → ℤ
line_value n = line_by (trans_matrix n) n

abbrev pub paired : {A : Type 0} → (A → List ℤ) → ℕ → List A → ℕ → ℤ
paired f j xs m = get_or (column f (4 * (m % 2) + j) xs) (m / 2) (pos 0)

pub record Head (q n : ℕ) (xs : List ℤ) (c : ℕ) (r : List ℤ) : Type 0 where
  pub long : length r ≡ q
  pub at : (k : ℕ) → k < q → get_or r k (pos 0) ≡ get_or xs (k * n + c) (pos 0)

pub record Values (n : ℕ) (xs : List ℤ) (c : ℕ) (r : List ℤ) : Type 0 where
  pub at : (k : ℕ) → k < n → get_or r k (pos 0) ≡ get_or xs (k * n + c) (pos 0)

pub record Block (at n e : ℕ) (f : ℕ → ℕ → ℤ) (w : ℕ) (ys zs : List ℤ) : Type 0 where
  pub long : length zs ≡ length ys
  pub done : (j m : ℕ) → j < w → m < e → get_or zs (at + j * n + m) (pos 0) ≡ f j m
  pub kept : (i : ℕ) → ((j m : ℕ) → j < w → m < e → i ≡ at + j * n + m → ⊥) → get_or zs i (pos 0) ≡ get_or ys i (pos 0)

pub record PartNeeds (e w at n out_length : ℕ) : Type 0 where
  pub few : w ≤ 4
  pub part : e ≤ n
  pub most : n ≤ 32
  pub start : at + e ≤ 2056
  pub room : (j : ℕ) → j < w → at + j * n + e ≤ out_length

pub record StageNeeds (q n source_length count : ℕ) (h : ℤ) (s out_length : ℕ) : Type 0 where
  pub long : q * n ≤ source_length
  pub half : Within (2 ^ 27) h
  pub shift : s ≤ 30
  pub few : count ≤ n
  pub room : count * n ≤ out_length

abbrev pub StageGives : ℕ → List ℤ → ℕ → ℤ → ℕ → (ℤ → ℤ) → List ℤ → List ℤ → Type 0
StageGives n xs count h s f out out₂ = Filled n n (λ c m. f (line_value n h s xs c m)) count out out₂

pub record StageSize (q n : ℕ) : Type 0 where
  pub size : T (is_size n)
  pub few : q ≤ n

pub record LineSize (n : ℕ) : Type 0 where
  pub parts : n % 8 ≡ 0
  pub least : 8 ≤ n
  pub most : n ≤ 32
