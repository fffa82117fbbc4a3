-- Laws of a call: what the functions below the refusals leave is what the definition says.
--   dequant_of_invertible   the numbers of every block can be searched
--   scaling_at_scales       scaling at an index keeps the order and takes 0 to 0
--   ready_invertible       the numbers of a call that is not refused
--   levels_found_lem           what was written below the refusals is what the definition says
--   levels-refused         a call whose numbers are refused hands back that refusal and the buffer as lent
use Rattle.std.specs.Prelude.{Result, Err}
use mathlib.Core.Path.{◌≡◌, refl, sym, ap, subst, fun_ext, ◌∙◌}
use mathlib.Core.Bool.{Bool, true, false, not, cond}
use mathlib.Core.List.{List}
use Prim.Native.Nat.{ℕ, ◌*◌, ◌/◌, ◌%◌, ◌≤◌, ◌<◌}
use native.Mathlib.Omega.{arith}
use borrow.Author.Tests.{ltb-false, not-false}
use lib.Dec.{ltb}
use lib.IntN.{ℤ, pos, nat_abs}
use lib.ListN.{length, get_or}
use Rattle.integers.specs.Lists.{overwrite}
use Rattle.integers.proofs.ListsLaws.{overwrite_cong}
use Rattle.integers.proofs.SearchLaws.{first_where_first, first_where_cong}
use Rattle.h265.specs.Range.{log2_size, transform_range}
use Rattle.h265.specs.Quantization.{clip_qp_prime}
use Rattle.h265.specs.Scaling.{bd_shift}
use Rattle.h265.specs.ScalingFactor.{ScalingList, scaling_factor}
use Rattle.h265.proofs.RangeLaws.{transform_range_depth, outside_range_false}
use Rattle.refusal.specs.declared.Refusal.{Refusal}
use Rattle.refusal.specs.declared.Refusal.TheVariants.{LevelMissing}
use Rattle.refusal.specs.Outcome.{refused}
use Rattle.refusal.specs.Written.{Written, Writes, left, wrote}
use Rattle.refusal.proofs.LadderLaws.{first_passed, first_refused, with_value}
use Rattle.parameters.specs.declared.DequantParams.{DequantParams}
use Rattle.parameters.specs.declared.TransformSkipParams.{TransformSkipParams}
use Rattle.parameters.specs.Answers.{no_transform_skip}
use Rattle.parameters.specs.Parameters.{dequant_of, transform_skip_of, KnownSize}
use Rattle.scaling_values.proofs.LevelLaws.{dequant_of_manageable, listed_level_eq}
use Rattle.refusal.specs.Condition.{bits32}
use Rattle.scaling_blocks.specs.Blocks.{scaling_ladder, block_params}
use Rattle.scaling_values.specs.Given.{entries_of}
use Rattle.scaling_blocks.proofs.BlockLaws.{rungs, Ready}
use Rattle.least_level.specs.Level.{LeastLevel, equal, level_missing, least_level, Scales}
use Rattle.level_search.specs.Found.{scaling_at, missing_at, first_missing, least_at, block_found, levels_found}
use Rattle.level_search.specs.Work.{nearest, scaling_by, nearest_at, misses_at, first_miss, Invertible}
use Rattle.least_level.proofs.LevelLaws.{clash, equal_sound, equal_refl, zero_inside, missing_some, least_level_eq}
use Rattle.least_level.proofs.ScalesLaws.{scale_level_scales, scales_cong}
use Rattle.level_search.proofs.SideLaws.{Ranged, nearest_least, nearest-missing}

-- ---- the numbers of a block
shift_least_lem : (l b : ℕ) (x : Bool) → KnownSize l b → 1 ≤ bd_shift b l (transform_range b x)
unfolding bd_shift
shift_least_lem l b x k = omega (arith, k, transform_range_depth b x k.deep)

pub dequant_of_invertible : (l : ℕ) (q : ℤ) (b : ℕ) (x : Bool) → KnownSize l b → Invertible (dequant_of l q b x)
unfolding dequant_of
dequant_of_invertible l q b x k =
    let r : ℕ = transform_range b x in
    let z = outside_range_false r (pos 0) (zero_inside r) in
    record {
      manageable = dequant_of_manageable l q b x k;
      least = z.0;
      most = z.1;
      scales = λ m. scales_cong (listed_level_eq l q b x m) (scale_level_scales r (bd_shift b l r) (nat_abs (clip_qp_prime b q)) m (shift_least_lem l b x k));
    }

dequant_of_ranged : (l : ℕ) (q : ℤ) (b : ℕ) (x : Bool) → Ranged (dequant_of l q b x) (transform_range b x)
unfolding dequant_of
dequant_of_ranged l q b x = record { least = refl; most = refl }

-- ---- one index
pub scaling_at_scales : (list : ScalingList) (n : ℕ) (q : ℤ) (b : ℕ) (x : Bool) → KnownSize (log2_size n) b → (i : ℕ) → Scales (scaling_at list n b x q i)
unfolding scaling_at
scaling_at_scales list n q b x k i =
    let r : ℕ = transform_range b x in
    scale_level_scales r (bd_shift b (log2_size n) r) (nat_abs (clip_qp_prime b q)) (scaling_factor list n i) (shift_least_lem (log2_size n) b x k)

module _ (list : ScalingList) (n : ℕ) (q : ℤ) (b : ℕ) (x : Bool) (k : KnownSize (log2_size n) b) (coeff : List ℤ) where
  abbrev numbers : DequantParams
  numbers = dequant_of (log2_size n) q b x

  scaling_is : (i : ℕ) → scaling_by numbers list n i ≡ scaling_at list n b x q i
  unfolding scaling_by scaling_at
  scaling_is i = fun_ext (λ v. listed_level_eq (log2_size n) q b x (scaling_factor list n i) v)

  scales_at : (i : ℕ) → Scales (scaling_by numbers list n i)
  unfolding scaling_by
  scales_at i = (dequant_of_invertible (log2_size n) q b x k).scales (scaling_factor list n i)

  module _ (i : ℕ) where
    abbrev f : ℤ → ℤ
    f = scaling_by numbers list n i

    abbrev r : ℕ
    r = transform_range b x

    abbrev z : ℤ
    z = get_or coeff i (pos 0)

    found_least : equal (f (nearest numbers f z)) z ≡ true → LeastLevel f r z (nearest numbers f z)
    found_least e = nearest_least numbers r (dequant_of_ranged (log2_size n) q b x) f (scales_at i) z (equal_sound _ z e)

    misses_is : misses_at numbers list n coeff i ≡ missing_at list n b x q coeff i
    unfolding misses_at missing_at nearest_at
    misses_is = by_test (equal (f (nearest numbers f z)) z) refl ∙ ap (λ (g : ℤ → ℤ). level_missing g r z) (scaling_is i)
      where
        by_test : (t : Bool) → equal (f (nearest numbers f z)) z ≡ t → not t ≡ level_missing f r z
        by_test true e = sym (missing_some f r z (nearest numbers f z) (found_least e).gives)
        by_test false e =
            sym (nearest-missing numbers r (dequant_of_ranged (log2_size n) q b x) f (scales_at i) z (λ d. clash e (rw d (equal_refl z))))

    nearest_is : misses_at numbers list n coeff i ≡ false → nearest_at numbers list n coeff i ≡ least_at list n b x q coeff i
    unfolding misses_at nearest_at least_at
    nearest_is e =
        sym (least_level_eq f r z (scales_at i) (nearest numbers f z) (found_least (not-false _ e)))
        ∙ ap (λ (g : ℤ → ℤ). least_level g r z) (scaling_is i)

  -- ---- the block
  first_is : first_miss numbers list n coeff ≡ first_missing list n b x q coeff
  unfolding first_miss first_missing
  first_is = first_where_cong (n * n) (misses_at numbers list n coeff) (missing_at list n b x q coeff) (λ i h. misses_is i)

  none_missed : (i : ℕ) → i < first_miss numbers list n coeff → misses_at numbers list n coeff i ≡ false
  unfolding first_miss
  none_missed i h = (first_where_first (n * n) (misses_at numbers list n coeff)).before.at i h

  found_is : (out : List ℤ)
      → block_found n (first_miss numbers list n coeff) (nearest_at numbers list n coeff) out
      ≡ block_found n (first_missing list n b x q coeff) (least_at list n b x q coeff) out
  unfolding block_found
  found_is out = by_test (ltb (first_miss numbers list n coeff) (n * n)) refl ∙ ap (λ (k : ℕ). block_found n k (least_at list n b x q coeff) out) first_is
    where
      by_test : (t : Bool) → ltb (first_miss numbers list n coeff) (n * n) ≡ t
          → let stop = left out (LevelMissing (first_miss numbers list n coeff / n) (first_miss numbers list n coeff % n)) in
          cond t stop (wrote (overwrite (n * n) (nearest_at numbers list n coeff) out)) ≡ cond t stop (wrote (overwrite (n * n) (least_at list n b x q coeff) out))
      by_test true e = refl
      by_test false e =
          ap wrote
          (overwrite_cong (n * n) (nearest_at numbers list n coeff) (least_at list n b x q coeff) out
          (λ i h. nearest_is i (none_missed i (omega (arith, h, ltb-false (first_miss numbers list n coeff) (n * n) e)))))

-- ---- a call
module _ (list : ScalingList) (n : ℕ) (q : ℤ) (b : ℕ) (x : Bool) (coeff out : List ℤ) where
  pub levels-refused : (e : Refusal) → refused no_transform_skip e ≡ block_params bits32 n q b x (entries_of list) (length coeff) (length out)
      → Writes (Err e) out (levels_found list n q b x coeff out)
  unfolding block_params levels_found scaling_ladder
  levels-refused e h =
      first_refused no_transform_skip (transform_skip_of (log2_size n) q b x) _ _ (λ w. Writes (Err e) out w) e
      (λ f k. record { answered = with_value tt e f k; out = refl }) (rungs bits32 n b x (entries_of list) (length coeff) (length out)) h

  module _ (p : TransformSkipParams) (r : Ready bits32 n q b x (entries_of list) (length coeff) (length out) p) where
    dequant_is : p.dequant ≡ dequant_of (log2_size n) q b x
    unfolding transform_skip_of
    dequant_is = ap (λ (s : TransformSkipParams). s.dequant) r.is

    pub ready_invertible : Invertible p.dequant
    ready_invertible = subst Invertible (sym dequant_is) (dequant_of_invertible (log2_size n) q b x r.known)

    pub levels_found_lem : {a : (Result (Unit {0}) Refusal)} {after : List ℤ}
        → Writes a after (block_found n (first_miss p.dequant list n coeff) (nearest_at p.dequant list n coeff) out)
        → Writes a after (levels_found list n q b x coeff out)
    unfolding levels_found scaling_ladder
    levels_found_lem {a} {after} w =
        subst (λ (v : Written). Writes a after v)
        (ap (λ (d : DequantParams). block_found n (first_miss d list n coeff) (nearest_at d list n coeff) out) dequant_is
        ∙ found_is list n q b x r.known coeff out
        ∙ sym (first_passed (left out) _ (rungs bits32 n b x (entries_of list) (length coeff) (length out)) r.passed))
        w
