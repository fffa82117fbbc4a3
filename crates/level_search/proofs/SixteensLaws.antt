-- A list of sixteens stands for no list: m is 16 at every index of every size, so that the search finds the same.
--   sixteens                  the list with 16 throughout and DC 16
--   sixteens_factor           its m at every index
--   levels_found_flat         what a call with it hands back is what a call without a list does
use mathlib.Core.Path.{◌≡◌, refl, ap, ap₂, fun_ext, ◌∙◌}
use mathlib.Core.Bool.{Bool, true, false, cond}
use mathlib.Core.List.{List}
use Prim.Native.Nat.{ℕ, zero, suc, ◌*◌, ◌/◌, ◌%◌, ◌≤◌, ◌<◌}
use native.Mathlib.Nat.{mul-le-mul}
use native.Mathlib.Omega.{arith}
use borrow.Author.Tests.{ltb-true, ltb-false}
use lib.Dec.{T, ltb}
use lib.IntN.{ℤ, pos, nat_abs}
use lib.ListN.{length, get_or, replicate, get_or-replicate}
use Rattle.integers.proofs.ListsLaws.{overwrite_cong}
use Rattle.integers.proofs.SearchLaws.{first_where_cong}
use Rattle.h265.specs.Range.{is_size, log2_size, transform_range}
use Rattle.h265.specs.Quantization.{clip_qp_prime}
use Rattle.h265.specs.Scaling.{bd_shift, scale_level}
use Rattle.h265.specs.ScalingFactor.{ScalingList, repeated_position, factor_source, factor_by, scaling_factor}
use Rattle.h265.specs.ScalingFactor.ScalingList.{flat, listed}
use Rattle.refusal.specs.declared.Refusal.TheVariants.{LevelMissing}
use Rattle.refusal.specs.Condition.{size_refused, bits32}
use Rattle.refusal.specs.Written.{Written, left, wrote}
use Rattle.refusal.proofs.ConditionLaws.{size_accepted}
use Rattle.scaling_values.proofs.FactorLaws.{size_large, factor_small, factor_first, factor_later, position_inside}
use Rattle.scaling_blocks.specs.Blocks.{scaling_ladder}
use Rattle.least_level.specs.Level.{level_missing, least_level}
use Rattle.level_search.specs.Found.{scaling_at, missing_at, first_missing, least_at, block_found, levels_found}

abbrev pub sixteens : ScalingList
sixteens = listed (replicate 64 16) 16

pub sixteens_factor : (n i : ℕ) → T (is_size n) → i < n * n → scaling_factor sixteens n i ≡ 16
sixteens_factor n i t h = by_size (ltb 8 n) refl
  where
    by_index : 16 ≤ n → (j : ℕ) → i ≡ j → scaling_factor sixteens n i ≡ 16
    by_index l zero e = rw e (factor_first (replicate 64 16) 16 n l)
    by_index l (suc j) e =
        factor_later (replicate 64 16) 16 n i l (omega (arith, e)) ∙ get_or-replicate 64 (repeated_position n i) 16 0 (position_inside n i t h l)

    by_size : (s : Bool) → ltb 8 n ≡ s → scaling_factor sixteens n i ≡ 16
    by_size true e = by_index (size_large n t (ltb-true 8 n e)) i refl
    by_size false e =
        let k : n ≤ 8 = ltb-false 8 n e in
        factor_small (replicate 64 16) 16 n i t k ∙ get_or-replicate 64 i 16 0 (omega (arith, h, mul-le-mul k k))

module _ (n : ℕ) (q : ℤ) (b : ℕ) (x : Bool) (coeff out : List ℤ) where
  scaling_at_flat : (i : ℕ) → T (is_size n) → i < n * n → scaling_at sixteens n b x q i ≡ scaling_at flat n b x q i
  unfolding scaling_at scaling_factor factor_source factor_by
  scaling_at_flat i t h =
      let r : ℕ = transform_range b x in
      fun_ext (λ v. ap (λ (m : ℕ). scale_level r (bd_shift b (log2_size n) r) (nat_abs (clip_qp_prime b q)) m v) (sixteens_factor n i t h))

  block_found_flat : T (is_size n)
      → block_found n (first_missing sixteens n b x q coeff) (least_at sixteens n b x q coeff) out
      ≡ block_found n (first_missing flat n b x q coeff) (least_at flat n b x q coeff) out
  unfolding block_found first_missing missing_at least_at
  block_found_flat t =
      ap₂ (λ (k : ℕ) (l : List ℤ). cond (ltb k (n * n)) (left out (LevelMissing (k / n) (k % n))) (wrote l))
      (first_where_cong (n * n) (missing_at sixteens n b x q coeff) (missing_at flat n b x q coeff)
      (λ i h. ap (λ (g : ℤ → ℤ). level_missing g (transform_range b x) (get_or coeff i (pos 0))) (scaling_at_flat i t h)))
      (overwrite_cong (n * n) (least_at sixteens n b x q coeff) (least_at flat n b x q coeff) out
      (λ i h. ap (λ (g : ℤ → ℤ). least_level g (transform_range b x) (get_or coeff i (pos 0))) (scaling_at_flat i t h)))

  pub levels_found_flat : levels_found sixteens n q b x coeff out ≡ levels_found flat n q b x coeff out
  unfolding levels_found scaling_ladder
  levels_found_flat = by_test (size_refused n) refl
    where
      by_test : (t : Bool) → size_refused n ≡ t → levels_found sixteens n q b x coeff out ≡ levels_found flat n q b x coeff out
      by_test true e = rw e
      by_test false e =
          ap (λ (w : Written). scaling_ladder (left out) w bits32 n b x 64 (length coeff) (length out)) (block_found_flat (size_accepted n e))
