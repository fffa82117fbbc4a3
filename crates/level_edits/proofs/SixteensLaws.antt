-- A list of sixteens stands for no list: the same edits of levels are found.
--   level_edits_found_flat    what a call with it hands back is what a call without a list does
use mathlib.Core.Path.{◌≡◌, refl, ap, ap₂, fun_ext}
use mathlib.Core.Bool.{Bool, true, false}
use mathlib.Core.List.{List}
use Prim.Native.Nat.{ℕ, ◌*◌}
use lib.Dec.{T}
use lib.IntN.{ℤ, pos, nat_abs}
use lib.ListN.{length, get_or, set}
use Rattle.integers.proofs.ListsLaws.{overwrite_cong, tabulate_cong}
use Rattle.h265.specs.Range.{is_size, log2_size, transform_range}
use Rattle.h265.specs.Quantization.{clip_qp_prime}
use Rattle.h265.specs.Scaling.{bd_shift, scale_level, scaled_at}
use Rattle.h265.specs.ScalingFactor.{factor_source, factor_by, scaling_factor}
use Rattle.h265.specs.ScalingFactor.ScalingList.{flat}
use Rattle.h265.specs.Transform.{residual}
use Rattle.refusal.specs.Condition.{size_refused}
use Rattle.refusal.proofs.ConditionLaws.{size_accepted}
use Rattle.transform_1d.specs.declared.Kind.{Kind}
use Rattle.transform_1d.specs.MatrixOf.{matrix_of}
use Rattle.level_search.proofs.SixteensLaws.{sixteens, sixteens_factor}
use Rattle.edit_values.specs.Values.{least_where, most_where}
use Rattle.edit_blocks.specs.Edits.{has_target}
use Rattle.edit_search.specs.Found.{left, wrote}
use Rattle.edit_blocks.specs.Ladder.{level_edit_ladder}
use Rattle.level_edits.specs.Levels.{scaled_block, level_gives, least_level_edit, most_level_edit, level_edits_found}

module _ (kind : Kind) (n : ℕ) (q : ℤ) (b : ℕ) (x : Bool) (levels target : List ℤ) (wanted : List ℕ) (least most : List ℤ) where
  block_flat : T (is_size n) → (xs : List ℤ) → scaled_block sixteens n b x q xs ≡ scaled_block flat n b x q xs
  unfolding scaled_block scaled_at scaling_factor factor_source factor_by
  block_flat t xs =
      let r : ℕ = transform_range b x in
      tabulate_cong (n * n) (scaled_at sixteens n b x q xs) (scaled_at flat n b x q xs)
      (λ i h. ap (λ (m : ℕ). scale_level r (bd_shift b (log2_size n) r) (nat_abs (clip_qp_prime b q)) m (get_or xs i (pos 0))) (sixteens_factor n i t h))

  gives_flat : T (is_size n) → (i : ℕ) (v : ℤ) → level_gives sixteens kind n b x q levels target wanted i v ≡ level_gives flat kind n b x q levels target wanted i v
  unfolding level_gives
  gives_flat t i v = ap (λ (d : List ℤ). has_target n (residual (matrix_of kind n) n b (transform_range b x) n d) target wanted) (block_flat t (set levels i v))

  pub level_edits_found_flat : level_edits_found sixteens kind n q b x levels target wanted least most ≡ level_edits_found flat kind n q b x levels target wanted least most
  unfolding level_edits_found level_edit_ladder least_level_edit most_level_edit
  level_edits_found_flat = by_test (size_refused n) refl
    where
      by_test : (t : Bool) → size_refused n ≡ t → level_edits_found sixteens kind n q b x levels target wanted least most ≡ level_edits_found flat kind n q b x levels target wanted least most
      by_test true e = rw e
      by_test false e =
          let t = size_accepted n e in
          ap₂ (λ (l m : List ℤ). level_edit_ladder (left least most) (wrote l m) kind n b 64 (length levels) (length target) (length wanted) (length least) (length most))
          (overwrite_cong (n * n) (least_level_edit sixteens kind n b x q levels target wanted) (least_level_edit flat kind n b x q levels target wanted) least (λ i h. ap (least_where (transform_range b x)) (fun_ext (gives_flat t i))))
          (overwrite_cong (n * n) (most_level_edit sixteens kind n b x q levels target wanted) (most_level_edit flat kind n b x q levels target wanted) most (λ i h. ap (most_where (transform_range b x)) (fun_ext (gives_flat t i))))
