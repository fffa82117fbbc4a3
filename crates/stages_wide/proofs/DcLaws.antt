-- Laws of a DCT's block whose only coefficient is the first.
--   first_inside        a block has a first place
--   dc_value             the one value of all outputs
--   filled_dc           a block filled with that value
use mathlib.Core.Path.{◌≡◌, sym, ap, ◌∙◌}
use mathlib.Core.List.{List}
use Prim.Native.Nat.{ℕ, ◌+◌, ◌*◌, ◌/◌, ◌%◌, ◌≤◌, ◌<◌}
use native.Mathlib.Nat.{add-zero, zero-mul, mul-le-mul, div-add-mod', mod-lt, div-lt_iff_lt-mul}
use native.Mathlib.Decide.{dec_lt}
use native.Mathlib.Omega.{arith}
use lib.Arith.{digits_lt}
use lib.IntN.{ℤ, pos, ◌*ℤ◌}
use lib.ListN.{length, get_or}
use Rattle.std.specs.Prelude.{map}
use Rattle.std.proofs.lemmas.List.{map-id}
use Rattle.integers.specs.Lists.{overwrite}
use Rattle.integers.proofs.ListsLaws.{overwrite-length, overwrite-get_or, overwrite-get_or-past}
use Rattle.integers.specs.Shift.{round_shift}
use Rattle.h265.specs.Matrix.{trans_matrix}
use Rattle.h265.specs.Range.{clip_coeff}
use Rattle.h265.specs.Transform.{block_at, columns_read, stage_one_sum, stage_one_value, intermediate, stage_two_sum, stage_two}
use Rattle.h265.proofs.TransformLaws.{columns_read_in}
use Rattle.transform_1d.specs.Rows.{Filled}
use Rattle.h265.proofs.RangeLaws.{clip_coeff_zero}
use Rattle.stages.proofs.PlainLaws.{line_first}
use Rattle.stages_wide.specs.Wide.{limited_block}
use Rattle.coefficients.specs.Rows.{RowsUsed}
use Rattle.stages_wide.specs.Parts.{limited_at, both_stages}
use Rattle.stages_wide.proofs.ResultLaws.{intermediate-past}

pub first_inside : {n k : ℕ} → 0 < n → n * n ≤ k → 0 < k
first_inside h l = omega (arith, l, mul-le-mul h h)

abbrev pub dc_value : List ℤ → ℕ → ℕ → ℤ
dc_value coeff r s = round_shift (pos 64 *ℤ clip_coeff r (round_shift (pos 64 *ℤ limited_at r coeff 0) 7)) s

module _ (n r s : ℕ) (coeff : List ℤ) (h : 0 < n) (u : RowsUsed coeff n 1 1) where
  abbrev read : ℕ → ℕ → ℤ
  read = columns_read 1 (limited_block r n coeff)

  read_first : read 0 0 ≡ limited_at r coeff 0
  unfolding block_at
  read_first = columns_read_in 1 (limited_block r n coeff) 0 0 (omega arith) ∙ ap (λ (i : ℕ). limited_at r coeff i) (add-zero (0 * n) ∙ zero-mul n)

  read_below : (k : ℕ) → 0 < k → k < n → read k 0 ≡ pos 0
  unfolding block_at
  read_below k a b = columns_read_in 1 (limited_block r n coeff) k 0 (omega arith) ∙ ap (clip_coeff r) (u.zero k 0 a b (omega arith)) ∙ clip_coeff_zero r

  inter_first : (m : ℕ) → intermediate (trans_matrix n) n r read m 0 ≡ clip_coeff r (round_shift (pos 64 *ℤ limited_at r coeff 0) 7)
  unfolding intermediate stage_one_value stage_one_sum
  inter_first m =
      ap (λ (z : ℤ). clip_coeff r (round_shift z 7))
      (line_first n (λ k. read k 0) m h read_below ∙ ap (λ (z : ℤ). pos 64 *ℤ z) read_first)

  dc_residual : (m j : ℕ) → both_stages (trans_matrix n) n s r 1 coeff m j ≡ dc_value coeff r s
  unfolding stage_two stage_two_sum
  dc_residual m j =
      ap (λ (z : ℤ). round_shift z s)
      (line_first n (λ c. intermediate (trans_matrix n) n r read m c) j h (λ c a b. intermediate-past (trans_matrix n) n r 1 (limited_block r n coeff) m c a)
      ∙ ap (λ (z : ℤ). pos 64 *ℤ z) (inter_first m))

  pub filled_dc : {v : ℤ} {xs ys : List ℤ} → v ≡ dc_value coeff r s → n * n ≤ length xs → map (λ (x : ℤ). x) ys ≡ overwrite (n * n) (λ i. v) (map (λ (x : ℤ). x) xs)
      → Filled n n (both_stages (trans_matrix n) n s r 1 coeff) n xs ys
  filled_dc {v} {xs} {ys} e long f =
      let p : ys ≡ overwrite (n * n) (λ i. v) xs = sym (map-id ys) ∙ f ∙ ap (overwrite (n * n) (λ i. v)) (map-id xs) in
      let past : (i : ℕ) → n * n ≤ i → get_or ys i (pos 0) ≡ get_or xs i (pos 0) = λ i l. ap (λ (zs : List ℤ). get_or zs i (pos 0)) p ∙ overwrite-get_or-past (n * n) (λ i. v) xs i (pos 0) l in
      record {
        long = ap length p ∙ overwrite-length (n * n) (λ i. v) xs long;
        done = λ m j a b.
            ap (λ (zs : List ℤ). get_or zs (m * n + j) (pos 0)) p
            ∙ overwrite-get_or (n * n) (λ i. v) xs (m * n + j) (pos 0) (digits_lt {q = m} {m = n} {r = j} {c = n} a b)
            ∙ e
            ∙ sym (dc_residual m j);
        kept = λ i k.
            elim (dec_lt i (n * n)) [
              | yes a ↦ absurd (k (i / n) (i % n) ((div-lt_iff_lt-mul h).1 a) (mod-lt i h) (sym (div-add-mod' i n)))
              | no d ↦ past i (omega arith)
            ];
      }
