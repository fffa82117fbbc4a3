-- Laws of a stage: lines over limited values, as rows.
--   line_short                 what a line leaves out is zero
--   place-column, place_inside the places of a line down a column of a block, and that they are inside it
--   filled_first               the one row of one line
--   stage_cong                 lines over equal values
--   past-rows                  a list of q rows reads as zero past them
--   rest_used                  where all values from row q on are zero, so are those of the columns read
--   pass_rows, short-rows      what a pass over the first q rows gives, where the rows after them are zero, or are not there
use mathlib.Core.Path.{◌≡◌, sym, ap, ◌∙◌, subst}
use mathlib.Core.List.{List}
use Prim.Native.Nat.{ℕ, suc, ◌+◌, ◌*◌, ◌-◌, ◌≤◌, ◌<◌}
use native.Mathlib.Nat.{mul-le-mul_right, mul-le-mul_left, mul-one, mul-add, suc-mul}
use native.Mathlib.Decide.{dec_lt}
use native.Mathlib.Omega.{arith}
use lib.Arith.{digits_lt}
use lib.IntN.{ℤ, pos, ◌+ℤ◌, ◌*ℤ◌}
use lib.ListN.{get_or, length, get_or-eq_default}
use Rattle.std.specs.Prelude.{map}
use Rattle.std.proofs.lemmas.List.{map-id}
use Rattle.integers.specs.Shift.{pow2, shift_right, round_shift}
use Rattle.integers.proofs.LinearLaws.{split, ring, diff_ext}
use Rattle.integers.proofs.SumLaws.{sum-short}
use Rattle.h265.specs.Matrix.{trans_matrix}
use Rattle.h265.specs.Range.{clip_coeff}
use Rattle.h265.specs.Transform.{transform_line, block_at}
use Rattle.h265.proofs.RangeLaws.{clip_coeff_zero}
use Rattle.h265.proofs.TransformLaws.{transform_line_cong}
use Rattle.coefficients.specs.Rows.{RowsUsed}
use Rattle.transform_1d.specs.Rows.{Filled}
use Rattle.transform_1d.proofs.RowsLaws.{filled_cong}
use Rattle.tiles.specs.Tile.{line_by}
use Rattle.tiles_wide.specs.Pass.{limited_list, PassGives}
use Rattle.tiles_wide.proofs.PassLaws.{limited_in, limited-past}
use Rattle.stages_wide.specs.Wide.{limited_block}
use Rattle.stages_wide.specs.Parts.{stage_of}

pub line_short : (t : ℕ → ℕ → ℤ) (n g : ℕ) (y : ℕ → ℤ) (j : ℕ) → g ≤ n → ((k : ℕ) → g ≤ k → k < n → y k ≡ pos 0) → transform_line t g y j ≡ transform_line t n y j
unfolding transform_line
line_short t n g y j h z = sym (sum-short n g (λ k. t k j *ℤ y k) h (λ k a b. ap (λ (v : ℤ). t k j *ℤ v) (z k a b) ∙ times_zero (t k j)))
  where
    times_zero : (a : ℤ) → a *ℤ pos 0 ≡ pos 0
    times_zero a = rw (← split a) (simp ring (diff_ext _ _ _ _ (omega arith)))

pub place-column : (n c k : ℕ) → c * 1 + k * n ≡ k * n + c
place-column n c k = omega (arith, mul-one c)

pub place_inside : (n lead stride c k : ℕ) → lead + stride ≤ n + 1 → c < n → k < n → c * lead + k * stride < n * n
place_inside n lead stride c k h i j =
    omega (
      arith,
      mul-le-mul_right lead (let e : c ≤ n - 1 = omega arith in e),
      mul-le-mul_right stride (let e : k ≤ n - 1 = omega arith in e),
      mul-add (n - 1) lead stride,
      mul-le-mul_left (n - 1) h,
      mul-add (n - 1) n 1,
      mul-one (n - 1),
      suc-mul (n - 1) n,
      ap (λ (m : ℕ). m * n) (let e : n ≡ suc (n - 1) = omega arith in e),
    )

pub filled_first : {n : ℕ} {g : ℕ → ℕ → ℤ} {xs ys : List ℤ} → Filled n n g 1 xs ys → (m : ℕ) → m < n → get_or ys m (pos 0) ≡ g 0 m
filled_first {n} {ys = ys} p m h = ap (λ (i : ℕ). get_or ys i (pos 0)) (let e : m ≡ 0 * n + m = omega arith in e) ∙ p.done 0 m (omega arith) h

pub stage_cong : (t : ℕ → ℕ → ℤ) (n s : ℕ) (y z : ℕ → ℕ → ℤ) (c d m : ℕ) → ((k : ℕ) → k < n → y k c ≡ z k d) → stage_of t n y s c m ≡ stage_of t n z s d m
stage_cong t n s y z c d m h = ap (λ (v : ℤ). round_shift v s) (transform_line_cong t n (λ k. y k c) (λ k. z k d) m h)

-- a list of q rows reads as zero past them
pub past-rows : (q n : ℕ) (xs : List ℤ) → length xs ≡ q * n → (k c : ℕ) → q ≤ k → get_or xs (k * n + c) (pos 0) ≡ pos 0
past-rows q n xs e k c l = get_or-eq_default xs (pos 0) (omega (arith, e, mul-le-mul_right n l))

-- a list of q rows of limited values reads as the block
module _ (q n r : ℕ) (xs : List ℤ) {count : ℕ} (h : count ≤ n) (z : (k c : ℕ) → q ≤ k → k < n → c < count → get_or xs (k * n + c) (pos 0) ≡ pos 0) where
  value : (k c : ℕ) → k < n → c < count → get_or (limited_list r (q * n) xs) (k * n + c) (pos 0) ≡ clip_coeff r (get_or xs (k * n + c) (pos 0))
  value k c a b =
      elim (dec_lt k q) [
        | yes y ↦ limited_in r (q * n) xs (k * n + c) (digits_lt {q = k} {m = q} {r = c} {c = n} y (omega arith))
        | no d ↦ limited-past r (q * n) xs (k * n + c) (omega (arith, mul-le-mul_right n (let l : q ≤ k = omega arith in l)))
            ∙ sym (ap (clip_coeff r) (z k c (omega arith) a b) ∙ clip_coeff_zero r)
      ]

  pub pass_rows : (s : ℕ) {out out₂ : List ℤ} → PassGives q n r count s xs out out₂ → Filled n n (stage_of (trans_matrix n) n (limited_block r n xs) s) count out out₂
  unfolding line_by round_shift block_at
  pass_rows s p =
      filled_cong
      (λ c m a b. ap (λ (v : ℤ). shift_right (v +ℤ pow2 (s - 1)) s)
      (transform_line_cong (trans_matrix n) n (λ k. get_or (limited_list r (q * n) xs) (k * n + c) (pos 0)) (λ k. clip_coeff r (get_or xs (k * n + c) (pos 0))) m (λ k i. value k c i a)))
      p.rows

pub short-rows : (q n r : ℕ) (xs : List ℤ) {count : ℕ} → count ≤ n → length xs ≡ q * n → (s : ℕ) {out out₂ : List ℤ} → PassGives q n r count s xs out out₂
    → Filled n n (stage_of (trans_matrix n) n (limited_block r n xs) s) count out out₂
short-rows q n r xs h e s p = pass_rows q n r xs h (λ k c u v w. past-rows q n xs e k c u) s p

pub rest_used : {n q nx : ℕ} (coeff : List ℤ) → q ≤ n → nx ≤ n
    → ((i : ℕ) → q * n ≤ i → i < n * n → get_or (map (λ (x : ℤ). x) coeff) i (pos 0) ≡ pos 0) → RowsUsed coeff n nx q
rest_used {n} {q} coeff few l z =
    record {
      most = few;
      zero = λ k c a b d.
          subst (λ (xs : List ℤ). get_or xs (k * n + c) (pos 0) ≡ pos 0) (map-id coeff)
          (z (k * n + c) (omega (arith, mul-le-mul_right n a)) (digits_lt {q = k} {m = n} {r = c} {c = n} b (omega arith)));
    }
