-- Laws of one level by the machine's numbers.
--   between_fits, clip3_fits, level_by_fits     what is limited to ends that fit a width fits it: the one law under both output widths
--   NumbersFit                    32 bits hold what a level is multiplied by, its rounding, and the two bounds of a block
--   manageable_ends               32 bits hold the ends of every range
--   manageable_wide               64 bits hold them, what a level is multiplied by, and its rounding
--   level_by_within                a coefficient is at most 2^22 in size
--   flat_level-…, listed_level-…    the same of a level without a list, and of one with the m of a list
--   moved_outside                 a limit changes what lies outside its ends, and nothing else
--   dequant_of_manageable          the numbers of every block are manageable
--   flat_level_eq, listed_level_eq  the machine's numbers of a block give clause 8.6's coefficient
--   outside_by_eq, listed_result_eq, listed_limited_eq   and tell what was limited
use mathlib.Core.Path.{◌≡◌, refl, sym, ap, ◌∙◌}
use mathlib.Core.Bool.{Bool, true, false, ◌||◌}
use Prim.Native.Nat.{ℕ, ◌+◌, ◌-◌, ◌*◌}
use native.Mathlib.Nat.{mul-le-mul_left}
use native.Mathlib.Omega.{arith}
use lib.IntN.{ℤ, pos, negsuc, nat_abs, ◌*ℤ◌, *ℤ_comm, pos-*ℤ-pos}
use lib.Pow.{pow_mono}
use lib.Signed.{lt_z, ◌≤ℤ◌, ≤ℤ_refl}
use mir.Syntax.{Width, w32, w64}
use mir.Val.{SFits}
use Rattle.integers.specs.Clip.{clip3}
use Rattle.integers.specs.Shift.{shift_right, round_shift}
use Rattle.integers.specs.Within.{Within}
use Rattle.integers.proofs.LinearLaws.{le_in}
use Rattle.integers.proofs.OrderLaws.{*ℤ_assoc}
use Rattle.integers.proofs.MachineLaws.{lt_z_true, lt_z_false, lt_z_of_le, sfits_pos_part, sfits_neg_part}
use Rattle.integers.proofs.BoundLaws.{within_fits, within_pos, within_le}
use Rattle.integers.proofs.ClipLaws.{clip3_low, clip3_high, clip3_id, clip3_cases, clip3_within}
use Rattle.h265.specs.Range.{transform_range, clip_coeff, outside_range}
use Rattle.h265.proofs.RangeLaws.{transform_range_least, transform_range_most, coeff_min_within, coeff_max_within, coeff_min-≤-coeff_max}
use Rattle.h265.proofs.QuantizationLaws.{clip_qp_prime_bound, scale_of_qp_bound}
use Rattle.h265.specs.Quantization.{clip_qp_prime, scale_of_qp}
use Rattle.h265.specs.Scaling.{bd_shift, scaled_value, scale_level}
use Rattle.h265.specs.Limited.{level_limited, result_limited, limited_level}
use Rattle.parameters.specs.declared.DequantParams.{DequantParams}
use Rattle.parameters.specs.Parameters.{dequant_of, KnownSize}
use Rattle.scaling_values.specs.Level.{level_by, flat_level, listed_level, outside_by, result_by, listed_result, listed_limited, Manageable, Ends}

-- ---- ranges
pub between_fits : {w : Width} (lo hi x : ℤ) → SFits w lo → SFits w hi → lo ≤ℤ x → x ≤ℤ hi → SFits w x
between_fits lo hi (pos n) f g h k = record { sfits = omega (arith, le_in k, sfits_pos_part g) }
between_fits lo hi (negsuc n) f g h k = record { sfits = omega (arith, le_in h, sfits_neg_part f) }

pub clip3_fits : {w : Width} (lo hi x : ℤ) → SFits w lo → SFits w hi → SFits w (clip3 lo hi x)
clip3_fits {w} lo hi x f g = clip3_cases (λ z. SFits w z) lo hi x (λ h. f) (λ h k. g) (λ h k. between_fits lo hi x f g h k)

pub level_by_fits : {w : Width} {p : DequantParams} (f level : ℤ) → Ends w p → SFits w (level_by p f level)
unfolding level_by
level_by_fits {p = p} f level e = clip3_fits p.clip_min p.clip_max _ e.least e.most

pub record NumbersFit (factor rounding lowest highest : ℤ) : Type 0 where
  pub base : SFits w32 factor
  pub add : SFits w32 rounding
  pub low : SFits w32 lowest
  pub top : SFits w32 highest

pub manageable_ends : {p : DequantParams} → Manageable p → Ends w32 p
manageable_ends m = record { least = within_fits tt m.least; most = within_fits tt m.most }

pub record WideNumbers (p : DequantParams) : Type 0 where
  pub factor : SFits w64 p.factor
  pub add : SFits w64 p.add
  pub ends : Ends w64 p

pub manageable_wide : {p : DequantParams} → Manageable p → WideNumbers p
manageable_wide m =
    record { factor = within_fits tt m.factor; add = within_fits tt m.add; ends = record { least = within_fits tt m.least; most = within_fits tt m.most } }

pub level_by_within : {p : DequantParams} (f level : ℤ) → Manageable p → Within 4194304 (level_by p f level)
unfolding level_by
level_by_within {p} f level m = clip3_within p.clip_min p.clip_max _ m.ordered m.least m.most

pub flat_level_within : {p : DequantParams} (level : ℤ) → Manageable p → Within 4194304 (flat_level p level)
unfolding flat_level
flat_level_within {p} level m = level_by_within p.factor level m

pub listed_level_fits : {w : Width} {p : DequantParams} (k : ℕ) (level : ℤ) → Ends w p → SFits w (listed_level p k level)
unfolding listed_level
listed_level_fits {p = p} k level e = level_by_fits (shift_right p.factor 4 *ℤ pos k) level e

pub listed_level_within : {p : DequantParams} (k : ℕ) (level : ℤ) → Manageable p → Within 4194304 (listed_level p k level)
unfolding listed_level
listed_level_within {p} k level m = level_by_within (shift_right p.factor 4 *ℤ pos k) level m

-- ---- what a limit changes
module _ (lo hi x : ℤ) (h : lo ≤ℤ hi) where
  pub moved_outside : {v : ℤ} → v ≡ clip3 lo hi x → (lt_z x v || lt_z v x) ≡ (lt_z x lo || lt_z hi x)
  moved_outside {v} e = ap (λ (y : ℤ). lt_z x y || lt_z y x) e ∙ by_tests (lt_z x lo) (lt_z hi x) refl refl
    where
      by_tests : (a b : Bool) → lt_z x lo ≡ a → lt_z hi x ≡ b → (lt_z x (clip3 lo hi x) || lt_z (clip3 lo hi x) x) ≡ a || b
      by_tests true b p q = rw (clip3_low lo hi x (lt_z_true p), p)
      by_tests false true p q = rw (clip3_high lo hi x (lt_z_false p) (lt_z_true q), q) (by_end (lt_z x hi))
        where
          by_end : (c : Bool) → (c || true) ≡ true
          by_end true = refl
          by_end false = refl
      by_tests false false p q = rw (clip3_id lo hi x (lt_z_false p) (lt_z_false q), lt_z_of_le (≤ℤ_refl x))

-- ---- clause 8.6
pub dequant_of_manageable : (l : ℕ) (q : ℤ) (b : ℕ) (x : Bool) → KnownSize l b → Manageable (dequant_of l q b x)
unfolding dequant_of bd_shift
dequant_of_manageable l q b x k =
    let r : ℕ = transform_range b x in
    let lo = transform_range_least b x in
    let hi = transform_range_most b x k.shallow in
    record {
      factor = within_pos (mul-le-mul_left 16 (scale_of_qp_bound (nat_abs (clip_qp_prime b q)) (clip_qp_prime_bound b q k.shallow)));
      add = within_pos (pow_mono {i = b + l + 10 - r - 1} {j = 15} (omega (arith, k)));
      shift = omega (arith, k);
      least = within_le (pow_mono hi) (coeff_min_within r);
      most = within_le (pow_mono hi) (coeff_max_within r);
      ordered = coeff_min-≤-coeff_max r;
    }

module _ (l : ℕ) (q : ℤ) (b : ℕ) (x : Bool) where
  abbrev scale : ℕ
  scale = scale_of_qp (nat_abs (clip_qp_prime b q))

  level_by_eq : (m : ℕ) (f level : ℤ) → f ≡ pos m *ℤ pos scale
      → level_by (dequant_of l q b x) f level ≡ scale_level (transform_range b x) (bd_shift b l (transform_range b x)) (nat_abs (clip_qp_prime b q)) m level
  unfolding level_by dequant_of scale_level scaled_value round_shift clip_coeff
  level_by_eq m f level e = rw (e, *ℤ_assoc)

  pub flat_level_eq : (level : ℤ)
      → flat_level (dequant_of l q b x) level ≡ scale_level (transform_range b x) (bd_shift b l (transform_range b x)) (nat_abs (clip_qp_prime b q)) 16 level
  unfolding flat_level dequant_of
  flat_level_eq level = level_by_eq 16 (pos (16 * scale)) level (sym (pos-*ℤ-pos 16 scale))

  base_eq : shift_right (pos (16 * scale)) 4 ≡ pos scale
  unfolding shift_right
  base_eq = ap pos (omega arith)

  pub listed_level_eq : (m : ℕ) (level : ℤ)
      → listed_level (dequant_of l q b x) m level ≡ scale_level (transform_range b x) (bd_shift b l (transform_range b x)) (nat_abs (clip_qp_prime b q)) m level
  unfolding listed_level dequant_of
  listed_level_eq m level =
      level_by_eq m (shift_right (pos (16 * scale)) 4 *ℤ pos m) level (ap (λ (z : ℤ). z *ℤ pos m) base_eq ∙ *ℤ_comm (pos scale) (pos m))

  -- what was limited
  pub outside_by_eq : (z : ℤ) → outside_by (dequant_of l q b x) z ≡ outside_range (transform_range b x) z
  unfolding outside_by dequant_of outside_range
  outside_by_eq z = refl

  pub listed_result_eq : (m : ℕ) (level : ℤ)
      → listed_result (dequant_of l q b x) m level ≡ scaled_value (bd_shift b l (transform_range b x)) (nat_abs (clip_qp_prime b q)) m (clip_coeff (transform_range b x) level)
  unfolding listed_result result_by dequant_of scaled_value round_shift clip_coeff
  listed_result_eq m level = rw (base_eq, *ℤ_comm (pos scale) (pos m), *ℤ_assoc)

  pub listed_limited_eq : (m : ℕ) (level : ℤ)
      → listed_limited (dequant_of l q b x) m level ≡ limited_level (transform_range b x) (bd_shift b l (transform_range b x)) (nat_abs (clip_qp_prime b q)) m level
  unfolding listed_limited limited_level level_limited result_limited
  listed_limited_eq m level = rw (outside_by_eq level, outside_by_eq (listed_result (dequant_of l q b x) m level), listed_result_eq m level)
