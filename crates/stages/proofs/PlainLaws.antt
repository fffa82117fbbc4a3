-- Laws that take blocks of each size and kind to the plain residual.
--   size-bounds, size-rest     a size is 4 to 32; one that is not 4, 8 or 16 is 32
--   block_needs_size              what a block asks, by another name of its size or of its column count
--   result_size                a block's result, by another name of its size
--   plain_needs_block             what the plain range asks covers what a block asks
--   result_dct, result_size_4  a block's result is the residual of its kind
--   kind_abs_sum               how large the entries of a kind of 4 points are
--   first_inside, first_fits, times_64   the first coefficient, and 64 times it
--   dc_residual, dc_result  one coefficient alone: every output is the same
use mathlib.Core.Path.{◌≡◌, sym, ap, ◌∙◌, subst}
use mathlib.Core.List.{List}
use Prim.Native.Nat.{ℕ, ◌*◌, ◌-◌, ◌/◌, ◌%◌, ◌<◌}
use native.Mathlib.Nat.{zero-mul, add-zero, mul-le-mul}
use native.Mathlib.Omega.{arith}
use lib.IntN.{ℤ, pos, ◌*ℤ◌, +ℤ_idl}
use lib.ListN.{length, get_or}
use lib.Signed.{◌≤ℤ◌}
use mir.Syntax.{w16}
use mir.Val.{SFits}
use Rattle.integers.specs.Lists.{overwrite}
use Rattle.integers.specs.Shift.{round_shift}
use Rattle.integers.specs.Sum.{sum}
use Rattle.integers.specs.Within.{Within}
use Rattle.integers.proofs.BoundLaws.{within_lit_mul, within_sfits}
use Rattle.integers.proofs.ListsLaws.{overwrite_cong}
use Rattle.integers.proofs.OrderLaws.{≤ℤ_trans}
use Rattle.h265.specs.Range.{clip_coeff}
use Rattle.h265.specs.Matrix.{trans_matrix32, trans_matrix, abs_sum}
use Rattle.h265.specs.Transform.{transform_line, block_at, row_order, columns_read, stage_one_sum, stage_one_value, intermediate, stage_two_sum, stage_two_shift, stage_two, residual}
use Rattle.transform_1d.specs.declared.Kind.{Kind}
use Rattle.transform_1d.specs.declared.Kind.TheVariants.{Dct, Dst}
use Rattle.transform_1d.specs.MatrixOf.{matrix_of}
use Rattle.transform_1d.proofs.MatrixLaws.{trans_matrix-abs_sum_4, dst_matrix-abs_sum}
use Rattle.stages.specs.Plain.{PlainNeeds}
use Rattle.coefficients.specs.Rows.{RowsUsed}
use Rattle.stages.specs.Passes.{shifted_residual, BlockNeeds}
use Rattle.stages.proofs.BlockLaws.{transform_line-short, intermediate-past}

-- ---- sizes
pub block_needs_size : {n k s nx len : ℕ} {coeff : List ℤ} → n ≡ k → BlockNeeds n s nx coeff len → BlockNeeds k s nx coeff len
block_needs_size {s = s} {nx} {len} {coeff} e a = subst (λ (i : ℕ). BlockNeeds i s nx coeff len) e a

pub block_needs_columns : {n s nx k len : ℕ} {coeff : List ℤ} → nx ≡ k → BlockNeeds n s nx coeff len → BlockNeeds n s k coeff len
block_needs_columns {n} {s} {len = len} {coeff} e a = subst (λ (i : ℕ). BlockNeeds n s i coeff len) e a

-- what a block of a size gives
abbrev pub Result : ℕ → ℕ → ℕ → List ℤ → List ℤ → List ℤ → Type 0
Result n s nx coeff out r = r ≡ overwrite (n * n) (row_order n (shifted_residual (trans_matrix n) n s nx coeff)) out

pub result_size : {n k : ℕ} (s nx : ℕ) (coeff out r : List ℤ) → n ≡ k → Result k s nx coeff out r → Result n s nx coeff out r
result_size s nx coeff out r e h = subst (λ (i : ℕ). Result i s nx coeff out r) (sym e) h

pub result_columns : (n s : ℕ) {nx k : ℕ} (coeff out r : List ℤ) → nx ≡ k → Result n s k coeff out r → Result n s nx coeff out r
result_columns n s coeff out r e h = subst (λ (i : ℕ). Result n s i coeff out r) (sym e) h

-- ---- kinds
pub plain_needs_block : {kind : Kind} {n b nx : ℕ} {coeff : List ℤ} {len : ℕ} → PlainNeeds kind n b nx coeff len → BlockNeeds n (20 - b) nx coeff len
plain_needs_block a =
    record { least = omega (arith, a.most); most = omega (arith, a.least); columns = a.columns; long = a.long; room = a.room; fits = a.fits }

abbrev pub Plain : Kind → ℕ → ℕ → ℕ → List ℤ → List ℤ → List ℤ → Type 0
Plain kind n b nx coeff out r = r ≡ overwrite (n * n) (row_order n (residual (matrix_of kind n) n b 15 nx coeff)) out

pub result_dct : {kind : Kind} (n b nx : ℕ) (coeff out r : List ℤ) → kind ≡ Dct → Result n (20 - b) nx coeff out r → Plain kind n b nx coeff out r
unfolding residual shifted_residual stage_two_shift matrix_of
result_dct n b nx coeff out r e h = subst (λ (k : Kind). Plain k n b nx coeff out r) (sym e) h

pub result_size_4 : (kind : Kind) {n : ℕ} (b nx : ℕ) (coeff out r : List ℤ) → n ≡ 4
    → r ≡ overwrite (4 * 4) (row_order 4 (shifted_residual (matrix_of kind 4) 4 (20 - b) nx coeff)) out → Plain kind n b nx coeff out r
unfolding residual shifted_residual stage_two_shift
result_size_4 kind b nx coeff out r e h = subst (λ (i : ℕ). Plain kind i b nx coeff out r) (sym e) h

-- ---- both kinds of 4 points
pub kind_abs_sum : (kind : Kind) (m : ℕ) → m < 4 → abs_sum (matrix_of kind 4) 4 m ≤ℤ pos 1862
unfolding matrix_of
kind_abs_sum Dct m l = ≤ℤ_trans {y = pos 247} (trans_matrix-abs_sum_4 m l) (record { le = tt })
kind_abs_sum Dst m l = ≤ℤ_trans {y = pos 242} (dst_matrix-abs_sum m l) (record { le = tt })

-- ---- one coefficient
pub first_inside : {n s : ℕ} {coeff : List ℤ} {len : ℕ} → 0 < n → BlockNeeds n s 1 coeff len → 0 < length coeff
first_inside {n} h a = omega (arith, a.long, mul-le-mul h h)

pub first_fits : {n s : ℕ} {coeff : List ℤ} {len : ℕ} → 0 < n → BlockNeeds n s 1 coeff len → SFits w16 (get_or coeff 0 (pos 0))
first_fits {n} {coeff = coeff} h a =
    subst (λ (i : ℕ). SFits w16 (get_or coeff i (pos 0))) (add-zero (0 * n) ∙ zero-mul n) (a.fits 0 0 h (omega arith))

pub times_64 : {x : ℤ} → SFits w16 x → Within 2097152 (pos 64 *ℤ x)
times_64 f = within_lit_mul 64 (within_sfits f)

pub line_first : (n : ℕ) (y : ℕ → ℤ) (m : ℕ) → 0 < n → ((k : ℕ) → 0 < k → k < n → y k ≡ pos 0) → transform_line (trans_matrix n) n y m ≡ pos 64 *ℤ y 0
unfolding transform_line sum trans_matrix trans_matrix32
line_first n y m h z =
    transform_line-short (trans_matrix n) n 1 y m h (λ k a b. z k a b)
    ∙ +ℤ_idl (trans_matrix n 0 m *ℤ y 0)
    ∙ ap (λ (k : ℕ). trans_matrix32 k m *ℤ y 0) (zero-mul (32 / n))

module _ (n s : ℕ) (coeff : List ℤ) (h : 0 < n) (u : RowsUsed coeff n 1 1) where
  abbrev pub dc_value : ℤ
  dc_value = round_shift (pos 64 *ℤ clip_coeff 15 (round_shift (pos 64 *ℤ get_or coeff 0 (pos 0)) 7)) s

  abbrev read : ℕ → ℕ → ℤ
  read = columns_read 1 (block_at n coeff)

  read_first : read 0 0 ≡ get_or coeff 0 (pos 0)
  unfolding columns_read block_at
  read_first = ap (λ (i : ℕ). get_or coeff i (pos 0)) (add-zero (0 * n) ∙ zero-mul n)

  read_below : (k : ℕ) → 0 < k → k < n → read k 0 ≡ pos 0
  unfolding columns_read block_at
  read_below k a b = u.zero k 0 a b (omega arith)

  inter_first : (m : ℕ) → intermediate (trans_matrix n) n 15 read m 0 ≡ clip_coeff 15 (round_shift (pos 64 *ℤ get_or coeff 0 (pos 0)) 7)
  unfolding intermediate stage_one_value stage_one_sum
  inter_first m =
      ap (λ (z : ℤ). clip_coeff 15 (round_shift z 7))
      (line_first n (λ k. read k 0) m h read_below ∙ ap (λ (z : ℤ). pos 64 *ℤ z) read_first)

  pub dc_residual : (m j : ℕ) → shifted_residual (trans_matrix n) n s 1 coeff m j ≡ dc_value
  unfolding shifted_residual stage_two stage_two_sum
  dc_residual m j =
      ap (λ (z : ℤ). round_shift z s)
      (line_first n (λ c. intermediate (trans_matrix n) n 15 read m c) j h (λ c a b. intermediate-past (trans_matrix n) n 1 (block_at n coeff) m c a) ∙ ap (λ (z : ℤ). pos 64 *ℤ z) (inter_first m))

  pub dc_result : {v : ℤ} (out r : List ℤ) → v ≡ dc_value → r ≡ overwrite (n * n) (λ i. v) out → Result n s 1 coeff out r
  unfolding row_order
  dc_result {v} out r e f =
      f ∙ overwrite_cong (n * n) (λ i. v) (row_order n (shifted_residual (trans_matrix n) n s 1 coeff)) out (λ i l. e ∙ sym (dc_residual (i / n) (i % n)))
