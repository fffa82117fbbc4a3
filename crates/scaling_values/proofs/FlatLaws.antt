-- Laws of levels without a list in 32 bits, at every range.
--   shr_z_shr_z, shr_z_scaled        a shift in two steps; what is a multiple of the first step's power is shifted exactly
--   base_eq, add_eq, shifted_eq   the numbers with 4 bits shifted out, and a level by them
--   end_below                     the end of the range, shifted back, fits 32 bits
--   short-limited                 a level past the two of a block is one that is limited, or whose result is
--   short_value                   between them, and past them, the coefficient is the block's
--   flat_counted                  the same of a whole block, in the terms of its numbers
--   short_numbers                 32 bits hold the numbers of a block
--   flat_for_short                 32 bits hold every product and sum
--   flat_for_fits                  an output holds every coefficient where it holds the ends of the range
--   dequant_of_regular             the numbers of every block are regular
use mathlib.Core.Path.{◌≡◌, refl, sym, ap, ap₂, subst, ◌∙◌}
use mathlib.Core.Bool.{Bool, true, false, ◌||◌, cond}
use mathlib.Core.List.{List}
use Prim.Native.Nat.{ℕ, ◌+◌, ◌-◌, ◌*◌, ◌^◌, ◌≤◌}
use native.Mathlib.Nat.{mul_comm, add-mul}
use native.Mathlib.Omega.{arith}
use lib.Dec.{ltb, ltb→lt}
use lib.IntN.{ℤ, pos, negsuc, neg_ℤ, nat_abs, ◌+ℤ◌, ◌*ℤ◌, +ℤ_idl, pos-*ℤ-pos}
use lib.ListN.{get_or}
use lib.Pow.{pow-add, pow_mono, pow_pos, shr-shr}
use lib.Signed.{shr_z, lt_z, ◌≤ℤ◌, ◌<ℤ◌}
use mir.Syntax.{Width}
use mir.Val.{SFits}
use Rattle.integers.specs.Clip.{clip3}
use Rattle.integers.specs.Shift.{pow2, shift_right}
use Rattle.integers.specs.Within.{Within}
use Rattle.integers.proofs.LinearLaws.{parts_neg, lt_out, split, ring, diff_ext}
use Rattle.integers.proofs.OrderLaws.{shr_shift}
use Rattle.integers.proofs.BoundLaws.{within_fits, within_le, within_pos, within_eq, within_neg}
use Rattle.integers.proofs.MachineLaws.{lt_z_true, lt_z_false}
use Rattle.integers.proofs.ListsLaws.{overwrite_cong}
use Rattle.integers.proofs.TestLaws.{all_below, all_below_at}
use Rattle.h265.specs.Range.{transform_range, coeff_min, coeff_max, clip_coeff, outside_range}
use Rattle.h265.specs.Quantization.{clip_qp_prime, level_scale, scale_of_qp}
use Rattle.h265.specs.Scaling.{bd_shift}
use Rattle.h265.proofs.RangeLaws.{transform_range_least, transform_range_depth}
use Rattle.h265.proofs.QuantizationLaws.{clip_qp_prime_bound}
use Rattle.parameters.specs.declared.DequantParams.{DequantParams}
use Rattle.parameters.specs.Parameters.{dequant_of, KnownSize}
use Rattle.scaling_values.specs.declared.FlatParams.{FlatParams}
use Rattle.scaling_values.specs.Level.{level_by, flat_level, listed_level, result_by, outside_by, listed_result, listed_limited, Manageable, Ends}
use Rattle.scaling_values.specs.Flat.{short_level, short_limited, short_at, short_limited_at, Regular, Exact, TopOf, LowOf, FlatFor, Short, ShortFits}
use Rattle.scaling_values.specs.Work.{flat_at, flat_limited_at, Counted}
use Rattle.scaling_values.proofs.CountLaws.{count_cong}
use Rattle.scaling_values.proofs.LevelLaws.{NumbersFit, level_by_fits, listed_level_within}
use Rattle.scaling_values.proofs.ThresholdLaws.{coeff_max_pos, limited_exact, value_between, value_above, value_below}

-- ---- shifts
pub shr_z_shr_z : (z : ℤ) (j k : ℕ) → shr_z (shr_z z (2 ^ j)) (2 ^ k) ≡ shr_z z (2 ^ (j + k))
shr_z_shr_z (pos n) j k = ap pos (shr-shr n j k)
shr_z_shr_z (negsuc n) j k = ap negsuc (shr-shr n j k)

shr_z_scaled : (y : ℤ) (k : ℕ) → shr_z (pos 0 +ℤ pos 16 *ℤ y) (2 ^ (4 + k)) ≡ shr_z y (2 ^ k)
shr_z_scaled y k =
    sym (shr_z_shr_z (pos 0 +ℤ pos 16 *ℤ y) 4 k) ∙ ap (λ (z : ℤ). shr_z z (2 ^ k)) (shr_shift (pos 0) y 16 (omega arith) ∙ +ℤ_idl y)

sixteen : (c : ℤ) (s t : ℕ) → c *ℤ pos (16 * s) +ℤ pos (16 * t) ≡ pos 0 +ℤ pos 16 *ℤ (c *ℤ pos s +ℤ pos t)
sixteen c s t = rw (← split c) (simp ring (diff_ext _ _ _ _ (omega arith)))

-- ---- 4 bits shifted out
module _ (p : DequantParams) (s : ℕ) (factor : p.factor ≡ pos (16 * s)) (add : p.add ≡ pow2 (p.shift - 1)) (low : 5 ≤ p.shift) where
  -- the rounding is 16 × 2^(s - 5), and the shift 4 + (s - 4)
  half_eq : 2 ^ (p.shift - 1) ≡ 16 * 2 ^ (p.shift - 5)
  half_eq = ap (λ (k : ℕ). 2 ^ k) (let e : p.shift - 1 ≡ 4 + (p.shift - 5) = omega (arith, low) in e) ∙ pow-add 2 4 (p.shift - 5)

  pub base_eq : shift_right p.factor 4 ≡ pos s
  unfolding shift_right
  base_eq = ap (λ (z : ℤ). shr_z z 16) factor ∙ ap pos (omega arith)

  pub add_eq : shift_right p.add 4 ≡ pow2 (p.shift - 5)
  unfolding shift_right
  add_eq = ap (λ (z : ℤ). shr_z z 16) add ∙ ap pos (omega (arith, half_eq))

  pub shifted_eq : (c : ℤ)
      → shift_right (c *ℤ shift_right p.factor 4 +ℤ shift_right p.add 4) (p.shift - 4) ≡ shift_right (c *ℤ p.factor +ℤ p.add) p.shift
  unfolding shift_right
  shifted_eq c =
      ap₂ (λ (f : ℤ) (a : ℤ). shr_z (c *ℤ f +ℤ a) (2 ^ (p.shift - 4))) base_eq add_eq
      ∙ sym (shr_z_scaled (c *ℤ pos s +ℤ pow2 (p.shift - 5)) (p.shift - 4))
      ∙ ap₂ (λ (z : ℤ) (k : ℕ). shr_z z (2 ^ k)) (sym (sixteen c s (2 ^ (p.shift - 5)))) (let e : 4 + (p.shift - 4) ≡ p.shift = omega (arith, low) in e)
      ∙ ap₂ (λ (f : ℤ) (a : ℤ). shr_z (c *ℤ f +ℤ a) (2 ^ p.shift)) (sym factor) (ap pos (sym half_eq) ∙ sym add)

-- ---- a block's numbers
pub end_below : {p : DequantParams} (g : Regular p) → (2 ^ g.range - 1 + 1) * 2 ^ (p.shift - 4) ≤ 134217728
end_below {p} g =
    subst (λ (m : ℕ). m ≤ 134217728) (pow-add 2 g.range (p.shift - 4) ∙ ap (λ (m : ℕ). m * 2 ^ (p.shift - 4)) (let e : 2 ^ g.range ≡ 2 ^ g.range - 1 + 1 = omega (arith, pow_pos g.range) in e))
    (pow_mono {i = g.range + (p.shift - 4)} {j = 27} (omega (arith, g.together, g.low)))

-- ---- a level, and what was limited
module _ {p : DequantParams} {k : FlatParams} (scale r : ℕ) (factor : p.factor ≡ pos (16 * scale)) (add : p.add ≡ pow2 (p.shift - 1)) (low : 5 ≤ p.shift) (most : p.clip_max ≡ coeff_max r) (h : FlatFor p k) where
  abbrev base_is : shift_right p.factor 4 ≡ pos scale
  base_is = base_eq p scale factor add low

  abbrev add_is : shift_right p.add 4 ≡ pow2 (p.shift - 5)
  add_is = add_eq p scale factor add low

  most_is : p.clip_max ≡ pos (2 ^ r - 1)
  most_is = most ∙ coeff_max_pos r

  top_is : TopOf scale (2 ^ (p.shift - 5)) (p.shift - 4) (2 ^ r - 1) h.largest
  top_is = rw (base_is, add_is, most_is) at h.top_of

  low_is : LowOf scale (2 ^ (p.shift - 5)) (p.shift - 4) (2 ^ r - 1) h.least
  low_is = rw (base_is, add_is, most_is) at h.low_of

  exact_is : Exact scale (2 ^ (p.shift - 5)) (p.shift - 4) (2 ^ r - 1) h.largest h.least
  exact_is =
      record { top = top_is; low = low_is }

  -- a level by the block's numbers, 4 bits shifted out
  rounded_is : (c : ℤ) → shift_right (c *ℤ pos scale +ℤ pow2 (p.shift - 5)) (p.shift - 4) ≡ shift_right (c *ℤ p.factor +ℤ p.add) p.shift
  rounded_is c =
      ap₂ (λ (f : ℤ) (a : ℤ). shift_right (c *ℤ f +ℤ a) (p.shift - 4)) (sym base_is) (sym add_is) ∙ shifted_eq p scale factor add low c

  pub short-limited : (level : ℤ)
      → short_limited k level ≡ outside_range r level || outside_range r (shift_right (clip_coeff r level *ℤ p.factor +ℤ p.add) p.shift)
  unfolding short_limited
  short-limited level =
      ap₂ (λ (x : ℤ) (y : ℤ). lt_z level x || lt_z y level) h.low h.top
      ∙ limited_exact scale (2 ^ (p.shift - 5)) (p.shift - 4) r h.largest h.least exact_is level
      ∙ ap (λ (z : ℤ). outside_range r level || outside_range r z) (rounded_is (clip_coeff r level))

  module _ (least : p.clip_min ≡ coeff_min r) where
    -- the block's coefficient of a level
    abbrev coefficient : ℤ → ℤ
    coefficient c = clip3 (coeff_min r) (coeff_max r) (shift_right (clip_coeff r c *ℤ pos scale +ℤ pow2 (p.shift - 5)) (p.shift - 4))

    coefficient_is : (c : ℤ) → coefficient c ≡ flat_level p c
    unfolding flat_level level_by clip_coeff
    coefficient_is c = rw (least, most, rounded_is (clip3 (coeff_min r) (coeff_max r) c))

    listed_is : (c : ℤ) → listed_level p 16 c ≡ flat_level p c
    unfolding listed_level flat_level
    listed_is c = ap (λ (f : ℤ). level_by p f c) (rw base_is (pos-*ℤ-pos scale 16 ∙ ap pos (mul_comm scale 16)) ∙ sym factor)

    under_is : (level : ℤ) → level <ℤ neg_ℤ (pos h.least) → k.under ≡ flat_level p level
    under_is level a =
        let d : neg_ℤ (pos (h.least + 1)) <ℤ neg_ℤ (pos h.least) = lt_out (neg_ℤ (pos (h.least + 1))) (neg_ℤ (pos h.least)) (omega (arith, parts_neg (pos (h.least + 1)), parts_neg (pos h.least))) in
        h.under ∙ listed_is (neg_ℤ (pos (h.least + 1))) ∙ sym (coefficient_is (neg_ℤ (pos (h.least + 1))))
        ∙ value_below scale (2 ^ (p.shift - 5)) (p.shift - 4) r h.largest h.least exact_is (neg_ℤ (pos (h.least + 1))) level d a
        ∙ coefficient_is level

    over_is : (level : ℤ) → pos h.largest <ℤ level → k.over ≡ flat_level p level
    over_is level a =
        let d : pos h.largest <ℤ pos (h.largest + 1) = lt_out (pos h.largest) (pos (h.largest + 1)) (omega arith) in
        h.over ∙ listed_is (pos (h.largest + 1)) ∙ sym (coefficient_is (pos (h.largest + 1)))
        ∙ value_above scale (2 ^ (p.shift - 5)) (p.shift - 4) r h.largest h.least exact_is (pos (h.largest + 1)) level d a
        ∙ coefficient_is level

    inner_is : (level : ℤ) → neg_ℤ (pos h.least) ≤ℤ level → level ≤ℤ pos h.largest → shift_right (level *ℤ k.base +ℤ k.add) k.shift ≡ flat_level p level
    inner_is level a b =
        rw (h.base, h.add, h.shift, base_is, add_is)
        (value_between scale (2 ^ (p.shift - 5)) (p.shift - 4) r h.largest h.least exact_is level a b ∙ coefficient_is level)

    pub short_value : (level : ℤ) → short_level k level ≡ flat_level p level
    unfolding short_level
    short_value level =
        rw (h.low, h.top) (by_tests (lt_z level (neg_ℤ (pos h.least))) (lt_z (pos h.largest) level) refl refl)
      where
        by_tests : (x y : Bool) → lt_z level (neg_ℤ (pos h.least)) ≡ x → lt_z (pos h.largest) level ≡ y
            → cond x k.under (cond y k.over (shift_right (level *ℤ k.base +ℤ k.add) k.shift)) ≡ flat_level p level
        by_tests true y a b = under_is level (lt_z_true a)
        by_tests false true a b = over_is level (lt_z_true b)
        by_tests false false a b = inner_is level (lt_z_false a) (lt_z_false b)

-- ---- 32 bits hold every product and sum
module _ {p : DequantParams} {k : FlatParams} (g : Regular p) (h : FlatFor p k) where
  pub flat_for_short : Manageable p → Short k
  flat_for_short m =
      let base = base_eq p g.scale g.factor g.add g.low in
      let add = add_eq p g.scale g.factor g.add g.low in
      let t = top_is g.scale g.range g.factor g.add g.low g.most h in
      let l = low_is g.scale g.range g.factor g.add g.low g.most h in
      let half = pow_mono {i = p.shift - 5} {j = 15} (omega (arith, g.high)) in
      let scale : g.scale ≤ 4718592 = omega (arith, (subst (λ (z : ℤ). Within 75497472 z) g.factor m.factor).within) in
      let end : 2 ^ g.range - 1 ≤ 4194304 = omega (arith, (subst (λ (z : ℤ). Within 4194304 z) (g.most ∙ coeff_max_pos g.range) m.most).within) in
      record {
        size = h.least + h.largest;
        scale = g.scale;
        low = within_eq h.low (within_neg (within_pos {k = h.least} (omega arith)));
        top = within_eq h.top (within_pos (omega arith));
        base = within_eq (h.base ∙ base) (within_pos (omega arith));
        levels = omega (arith, t.inside, l.inside, end);
        factors = omega (arith, scale);
        products = rw (add-mul h.least h.largest g.scale) (omega (arith, t.fits, l.fits, half, end_below g));
        add = within_eq (h.add ∙ add) (within_pos half);
        shift = omega (arith, h.shift, g.high);
        under = within_eq h.under (listed_level_within 16 _ m);
        over = within_eq h.over (listed_level_within 16 _ m);
      }

  short_at_eq : (levels : List ℤ) (i : ℕ) → short_at k levels i ≡ flat_at p levels i
  unfolding short_at flat_at
  short_at_eq levels i = short_value g.scale g.range g.factor g.add g.low g.most h g.least (get_or levels i (pos 0))

  pub flat_for_fits : {w : Width} → Ends w p → ShortFits w k
  unfolding flat_level
  flat_for_fits {w} e =
      record {
        at =
            λ level.
            subst (λ (z : ℤ). SFits w z) (sym (short_value g.scale g.range g.factor g.add g.low g.most h g.least level))
            (level_by_fits p.factor level e);
      }

  sixteen_is : shift_right p.factor 4 *ℤ pos 16 ≡ p.factor
  sixteen_is = rw (base_eq p g.scale g.factor g.add g.low) (pos-*ℤ-pos g.scale 16 ∙ ap pos (mul_comm g.scale 16)) ∙ sym g.factor

  short_limited_eq : (level : ℤ) → short_limited k level ≡ listed_limited p 16 level
  unfolding listed_limited listed_result result_by outside_by outside_range clip_coeff
  short_limited_eq level =
      short-limited g.scale g.range g.factor g.add g.low g.most h level ∙ rw (sixteen_is, g.least, g.most)

  short_limited_at_eq : (levels : List ℤ) (i : ℕ) → short_limited_at k levels i ≡ flat_limited_at p levels i
  unfolding short_limited_at flat_limited_at
  short_limited_at_eq levels i = short_limited_eq (get_or levels i (pos 0))

  pub flat_counted : (levels : List ℤ) {n m : ℕ} {out after : List ℤ} → Counted (short_at k levels) (short_limited_at k levels) n out after m → Counted (flat_at p levels) (flat_limited_at p levels) n out after m
  flat_counted levels {n} {out = out} c =
      record {
        out = c.out ∙ overwrite_cong n (short_at k levels) (flat_at p levels) out (λ i a. short_at_eq levels i);
        count = c.count ∙ count_cong (short_limited_at k levels) (flat_limited_at p levels) n (λ i a. short_limited_at_eq levels i);
      }

-- ---- every block
scale_positive : (q : ℕ) → q ≤ 99 → 1 ≤ scale_of_qp q
unfolding all_below scale_of_qp level_scale
scale_positive q h = ltb→lt 0 (scale_of_qp q) (all_below_at 100 (λ k. ltb 0 (scale_of_qp k)) tt q (omega arith))

pub dequant_of_regular : (l : ℕ) (q : ℤ) (b : ℕ) (x : Bool) → KnownSize l b → Regular (dequant_of l q b x)
unfolding dequant_of bd_shift
dequant_of_regular l q b x k =
    record {
      scale = scale_of_qp (nat_abs (clip_qp_prime b q));
      range = transform_range b x;
      factor = refl;
      positive = scale_positive (nat_abs (clip_qp_prime b q)) (clip_qp_prime_bound b q k.shallow);
      add = refl;
      low = omega (arith, k, transform_range_depth b x k.deep);
      high = omega (arith, k, transform_range_least b x);
      wide = transform_range_least b x;
      together = omega (arith, k, transform_range_depth b x k.deep);
      least = refl;
      most = refl;
    }

-- ---- the numbers of a block
pub short_numbers : {k : FlatParams} → Short k → NumbersFit k.base k.add k.low k.top
short_numbers s =
    record {
      base = within_fits {b = 8388608} tt (within_le s.factors s.base);
      add = within_fits tt s.add;
      low = within_fits {b = 16777216} tt (within_le s.levels s.low);
      top = within_fits {b = 16777216} tt (within_le s.levels s.top);
    }
