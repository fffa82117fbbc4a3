-- Laws of levels with a list where R = 15, in 32 bits.
--   lt_z_iff                    two tests of which one holds exactly where the other does
--   shl_fits                   a shift to the left that fits is a product
--   lowered_result, raised_result   a block's result without the power of two that factor and shift share
--   compact_clip, compact_fits      the coefficient is the result limited, and fits 16 bits
--   compact_between                 between the two bounds it is the result shifted up
--   limited_below, -above, -between whether level or result was limited, by where the result lies
--   zeros_by_is, odd_by_is          what m is multiplied by, and its odd part, as they are worked out
--   compact_numbers, factor_within  32 bits hold the numbers of a block, and 16 what a level is multiplied by
--   lowered_by_for, raised_by_for     the numbers of a block
--   compact_counted            what is written and counted by them is the block's
--   factor_is, scale_is        what m is multiplied by in every block
--   dequant_of_listable         the numbers of every block are listable where R = 15
use mathlib.Core.Path.{◌≡◌, refl, sym, ap, ap₂, subst, ◌∙◌}
use mathlib.Core.Bool.{Bool, true, false, ◌||◌}
use mathlib.Core.List.{List}
use mathlib.Core.Logic.{◌↔◌}
use Prim.Native.Nat.{ℕ, suc, ◌+◌, ◌-◌, ◌*◌, ◌/◌, ◌%◌, ◌^◌, ◌≤◌, ◌<◌}
use native.Mathlib.Nat.{mul_comm, mul_assoc, mod-eq_of_lt, mul-le-mul_left, mul-sub, mul-add-mod_self_left}
use native.Mathlib.Decide.{dec_lt}
use native.Mathlib.Omega.{arith}
use lib.Count.{count_trailing_zeros}
use lib.Dec.{ltb, eqb, eqb→eq, ltb→lt, lit<}
use lib.IntN.{ℤ, pos, negsuc, neg_ℤ, nat_abs, ◌+ℤ◌, ◌*ℤ◌, *ℤ_comm, +ℤ_idr}
use lib.ListN.{get_or}
use lib.Pow.{pow-add, pow_mono, pow_pos, pow-lt}
use lib.Signed.{shr_z, lt_z, ◌≤ℤ◌, ≤ℤ_refl, clash_ℤ}
use mir.Facts.{to_z_pos}
use mir.Syntax.{w16, w32}
use mir.Val.{SFits, to_z, of_z}
use Rattle.integers.specs.Clip.{clip3}
use Rattle.integers.specs.Shift.{pow2, shift_right}
use Rattle.integers.specs.Within.{Within}
use Rattle.integers.proofs.LinearLaws.{parts_add, le_out, lt_out}
use Rattle.integers.proofs.OrderLaws.{*ℤ_assoc, *ℤ-+ℤ, one-*ℤ, shr_unique}
use Rattle.integers.proofs.ShiftLaws.{le_shift_right, shift_right_zero, shift_right_within}
use Rattle.integers.proofs.BoundLaws.{within_fits, within_eq, within_pos, within_mul}
use Rattle.integers.proofs.MachineLaws.{round_trip, lt_z_true, lt_z_false}
use Rattle.integers.proofs.ListsLaws.{overwrite_cong}
use Rattle.integers.proofs.ClipLaws.{clip3_within}
use Rattle.integers.proofs.TestLaws.{all_below, all_below_at}
use Rattle.h265.specs.Range.{transform_range, coeff_min, coeff_max}
use Rattle.h265.specs.Quantization.{qp_bd_offset, clip_qp_prime, level_scale, scale_of_qp}
use Rattle.h265.specs.Scaling.{bd_shift}
use Rattle.h265.proofs.RangeLaws.{transform_range_least}
use Rattle.h265.proofs.QuantizationLaws.{clip_qp_prime_bound, scale_of_qp_bound}
use Rattle.parameters.specs.declared.DequantParams.{DequantParams}
use Rattle.parameters.specs.Parameters.{dequant_of, KnownSize}
use Rattle.scaling_values.specs.declared.ListedParams.{ListedParams}
use Rattle.scaling_values.specs.Level.{level_by, listed_level, outside_by, result_by, listed_result, listed_limited}
use Rattle.scaling_values.specs.Listed.{compact_result, compact_level, compact_limited, compact_at, compact_limited_at, scale_by, zeros_by, odd_by, lowered_by, raised_by, Listable, Compact, ListedFor}
use Rattle.scaling_values.specs.Work.{direct_at, direct_limited_at, Counted}
use Rattle.scaling_values.proofs.CountLaws.{count_cong}
use Rattle.scaling_values.proofs.LevelLaws.{NumbersFit, clip3_fits}
use Rattle.scaling_values.proofs.FlatLaws.{shr_z_shr_z}
use Rattle.scaling_values.proofs.ThresholdLaws.{coeff_max_pos}

pub lt_z_iff : {a x b y : ℤ} → ((a ≤ℤ x) ↔ (b ≤ℤ y)) → lt_z x a ≡ lt_z y b
lt_z_iff {a} {x} {b} {y} e = by_tests (lt_z x a) (lt_z y b) refl refl
  where
    by_tests : (p q : Bool) → lt_z x a ≡ p → lt_z y b ≡ q → p ≡ q
    by_tests true true h k = refl
    by_tests true false h k = clash_ℤ (lt_z_true h) (e.1 (lt_z_false k))
    by_tests false true h k = clash_ℤ (lt_z_true k) (e.0 (lt_z_false h))
    by_tests false false h k = refl

-- ---- a shift to the left
pub shl_fits : (z : ℤ) (n : ℕ) → SFits w32 (pow2 n *ℤ z) → to_z w32 ((of_z w32 z * 2 ^ n) % 4294967296) ≡ pow2 n *ℤ z
shl_fits (pos a) n f =
    let e = mul_comm a (2 ^ n) in
    let h : 2 ^ n * a < 2147483648 = f.sfits in
    ap (to_z w32) (ap (λ (k : ℕ). k % 4294967296) e ∙ mod-eq_of_lt (omega (arith, h))) ∙ to_z_pos w32 (omega (arith, h))
shl_fits (negsuc a) n f = by_size (2 ^ n * suc a - 1) (omega (arith, mul-le-mul_left (suc a) (pow_pos n), mul_comm (2 ^ n) (suc a)))
  where
    by_size : (j : ℕ) → suc j ≡ 2 ^ n * suc a → to_z w32 (((4294967296 - suc a) * 2 ^ n) % 4294967296) ≡ neg_ℤ (pos (2 ^ n * suc a))
    by_size j e =
        let h : j < 2147483648 = (subst (λ (k : ℕ). SFits w32 (neg_ℤ (pos k))) (sym e) f).sfits in
        let d : (4294967296 - suc a) * 2 ^ n ≡ 4294967296 * (2 ^ n - 1) + (4294967296 - suc j) =
        mul_comm (4294967296 - suc a) (2 ^ n) ∙ mul-sub (2 ^ n) 4294967296 (suc a) ∙ omega (arith, e, h, pow_pos n)
        in
        ap (to_z w32) (ap (λ (k : ℕ). k % 4294967296) d ∙ mul-add-mod_self_left 4294967296 (2 ^ n - 1) (4294967296 - suc j) ∙ mod-eq_of_lt (omega arith))
        ∙ round_trip {w = w32} {z = negsuc j} (record { sfits = omega (arith, h) })
        ∙ ap (λ (k : ℕ). neg_ℤ (pos k)) e

-- ---- multiples of a power of two, shifted
scaled_rest : (s h : ℕ) (r : ℤ) → h < 2 ^ s → shift_right (pow2 s *ℤ r +ℤ pos h) s ≡ r
unfolding shift_right
scaled_rest s h r k =
    sym
    (shr_unique (pow2 s *ℤ r +ℤ pos h) r (2 ^ s) (pow_pos s)
    (le_out (pow2 s *ℤ r) (pow2 s *ℤ r +ℤ pos h) (omega (arith, parts_add (pow2 s *ℤ r) (pos h))))
    (lt_out (pow2 s *ℤ r +ℤ pos h) (pow2 s *ℤ r +ℤ pow2 s) (omega (arith, parts_add (pow2 s *ℤ r) (pos h), parts_add (pow2 s *ℤ r) (pow2 s), k))))

pub scaled_back : (s : ℕ) (r : ℤ) → shift_right (pow2 s *ℤ r) s ≡ r
unfolding shift_right
scaled_back s r =
    sym
    (shr_unique (pow2 s *ℤ r) r (2 ^ s) (pow_pos s) (≤ℤ_refl (pow2 s *ℤ r))
    (lt_out (pow2 s *ℤ r) (pow2 s *ℤ r +ℤ pow2 s) (omega (arith, parts_add (pow2 s *ℤ r) (pow2 s), pow_pos s))))

scaled_more : (t d : ℕ) (z : ℤ) → shift_right (pow2 t *ℤ z) (t + d) ≡ shift_right z d
unfolding shift_right
scaled_more t d z = sym (shr_z_shr_z (pow2 t *ℤ z) t d) ∙ ap (λ (y : ℤ). shr_z y (2 ^ d)) (scaled_back t z)

-- the power of two in front
product_is : (c : ℤ) (o t m : ℕ) → c *ℤ (pos (o * t) *ℤ pos m) ≡ pos t *ℤ (c *ℤ (pos m *ℤ pos o))
product_is c o t m =
    ap (λ (x : ℕ). c *ℤ pos x) (ap (λ (x : ℕ). x * m) (mul_comm o t) ∙ mul_assoc t o m ∙ ap (λ (x : ℕ). t * x) (mul_comm o m))
    ∙ sym (*ℤ_assoc c (pos t) (pos (m * o)))
    ∙ ap (λ (x : ℤ). x *ℤ pos (m * o)) (*ℤ_comm c (pos t))
    ∙ *ℤ_assoc (pos t) c (pos (m * o))

pub lowered_by_lem : (c : ℤ) (o t d m : ℕ) → 1 ≤ d
    → shift_right (c *ℤ (pos (o * 2 ^ t) *ℤ pos m) +ℤ pow2 (t + d - 1)) (t + d) ≡ shift_right (c *ℤ (pos m *ℤ pos o) +ℤ pow2 (d - 1)) d
lowered_by_lem c o t d m h =
    let e : t + d - 1 ≡ t + (d - 1) = omega arith in
    ap₂ (λ (x : ℤ) (k : ℕ). shift_right (x +ℤ pos k) (t + d)) (product_is c o (2 ^ t) m) (ap (λ (k : ℕ). 2 ^ k) e ∙ pow-add 2 t (d - 1))
    ∙ ap (λ (x : ℤ). shift_right x (t + d)) (sym (*ℤ-+ℤ (pow2 t) (c *ℤ (pos m *ℤ pos o)) (pow2 (d - 1))))
    ∙ scaled_more t d (c *ℤ (pos m *ℤ pos o) +ℤ pow2 (d - 1))

pub raised_by_lem : (c : ℤ) (o s u m : ℕ) → 1 ≤ s
    → shift_right (c *ℤ (pos (o * 2 ^ (s + u)) *ℤ pos m) +ℤ pow2 (s - 1)) s ≡ pow2 u *ℤ (c *ℤ (pos m *ℤ pos o))
raised_by_lem c o s u m h =
    ap (λ (x : ℤ). shift_right (x +ℤ pow2 (s - 1)) s)
    (product_is c o (2 ^ (s + u)) m
    ∙ ap (λ (k : ℕ). pos k *ℤ (c *ℤ (pos m *ℤ pos o))) (pow-add 2 s u)
    ∙ *ℤ_assoc (pow2 s) (pow2 u) (c *ℤ (pos m *ℤ pos o)))
    ∙ scaled_rest s (2 ^ (s - 1)) (pow2 u *ℤ (c *ℤ (pos m *ℤ pos o))) (pow-lt {i = s - 1} {j = s} (omega arith))

-- ---- a block's result
module _ {p : DequantParams} (g : Listable p) (m : ℕ) (level : ℤ) where
  abbrev near : ℤ
  near = clip3 (negsuc 32767) (pos 32767) level

  listable_result : listed_result p m level ≡ shift_right (near *ℤ (pos (odd_by p * 2 ^ zeros_by p) *ℤ pos m) +ℤ pow2 (p.shift - 1)) p.shift
  unfolding listed_result result_by
  listable_result =
      ap (λ (f : ℤ). shift_right (clip3 p.clip_min p.clip_max level *ℤ (f *ℤ pos m) +ℤ p.add) p.shift) (g.factor ∙ ap pos (sym g.whole))
      ∙ rw (g.least, g.most, g.add)

  lowered_result : zeros_by p < p.shift
      → listed_result p m level ≡ shift_right (near *ℤ (pos m *ℤ pos (odd_by p)) +ℤ pow2 (p.shift - zeros_by p - 1)) (p.shift - zeros_by p)
  lowered_result h =
      let e : p.shift ≡ zeros_by p + (p.shift - zeros_by p) = omega arith in
      listable_result
      ∙ ap (λ (k : ℕ). shift_right (near *ℤ (pos (odd_by p * 2 ^ zeros_by p) *ℤ pos m) +ℤ pow2 (k - 1)) k) e
      ∙ lowered_by_lem near (odd_by p) (zeros_by p) (p.shift - zeros_by p) m (omega arith)

  raised_result : p.shift ≤ zeros_by p → listed_result p m level ≡ pow2 (zeros_by p - p.shift) *ℤ (near *ℤ (pos m *ℤ pos (odd_by p)))
  raised_result h =
      let e : zeros_by p ≡ p.shift + (zeros_by p - p.shift) = omega arith in
      listable_result
      ∙ ap (λ (k : ℕ). shift_right (near *ℤ (pos (odd_by p * 2 ^ k) *ℤ pos m) +ℤ pow2 (p.shift - 1)) p.shift) e
      ∙ raised_by_lem near (odd_by p) p.shift (zeros_by p - p.shift) m (omega (arith, g.low))

-- ---- the numbers of a block
-- 2^15 is a multiple of every power of two that is shifted up
end_is : (u : ℕ) → u < 16 → pow2 u *ℤ shift_right (negsuc 32767) u ≡ negsuc 32767
unfolding shift_right all_below
end_is u h = ap (λ (k : ℕ). neg_ℤ (pos k)) (eqb→eq (2 ^ u * suc (32767 / 2 ^ u)) 32768 (all_below_at 16 (λ k. eqb (2 ^ k * suc (32767 / 2 ^ k)) 32768) tt u h))

module _ {p : DequantParams} (g : Listable p) where
  pub lowered_by_for : zeros_by p < p.shift → ListedFor p (lowered_by (pos (odd_by p)) (p.shift - zeros_by p))
  unfolding compact_result
  lowered_by_for h =
      record {
        compact =
            record {
              base = within_pos (omega (arith, g.odd));
              add = within_pos (pow_mono {i = p.shift - zeros_by p - 1} {j = 15} (omega (arith, g.high)));
              down = omega (arith, g.high);
              up = omega arith;
              low = refl;
              top = sym (shift_right_zero (pos 32767));
              lowest = record { within = omega arith };
            };
        least = g.least;
        most = g.most;
        result = λ m level. lowered_result g m level h ∙ sym (one-*ℤ _);
      }

  pub raised_by_for : p.shift ≤ zeros_by p → ListedFor p (raised_by (pos (odd_by p)) (zeros_by p - p.shift))
  unfolding compact_result
  raised_by_for h =
      record {
        compact =
            record {
              base = within_pos (omega (arith, g.odd));
              add = within_pos (omega arith);
              down = omega arith;
              up = omega (arith, g.power);
              low = end_is (zeros_by p - p.shift) (omega (arith, g.power));
              top = refl;
              lowest = shift_right_within (zeros_by p - p.shift) (record { within = omega arith });
            };
        least = g.least;
        most = g.most;
        result = λ m level. raised_result g m level h ∙ ap (λ (z : ℤ). pow2 (zeros_by p - p.shift) *ℤ z) (sym (plain (clip3 (negsuc 32767) (pos 32767) level *ℤ (pos m *ℤ pos (odd_by p)))));
      }
    where
      plain : (z : ℤ) → shift_right (z +ℤ pos 0) 0 ≡ z
      plain z = shift_right_zero (z +ℤ pos 0) ∙ +ℤ_idr z

-- ---- the coefficient, and what was limited
module _ {k : ListedParams} (c : Compact k) where
  low_is : (r : ℤ) → lt_z r k.low ≡ lt_z (pow2 k.up *ℤ r) (negsuc 32767)
  low_is r = lt_z_iff (to, from)
    where
      to : k.low ≤ℤ r → negsuc 32767 ≤ℤ (pow2 k.up *ℤ r)
      to h =
          subst (λ (y : ℤ). y ≤ℤ (pow2 k.up *ℤ r)) c.low
          ((le_shift_right k.low (pow2 k.up *ℤ r) k.up).1 (subst (λ (y : ℤ). k.low ≤ℤ y) (sym (scaled_back k.up r)) h))

      from : negsuc 32767 ≤ℤ (pow2 k.up *ℤ r) → k.low ≤ℤ r
      from h =
          subst (λ (y : ℤ). k.low ≤ℤ y) (scaled_back k.up r)
          ((le_shift_right k.low (pow2 k.up *ℤ r) k.up).0 (subst (λ (y : ℤ). y ≤ℤ (pow2 k.up *ℤ r)) (sym c.low) h))

  top_is : (r : ℤ) → lt_z k.top r ≡ lt_z (pos 32767) (pow2 k.up *ℤ r)
  top_is r =
      lt_z_iff (
        λ h. (le_shift_right r (pos 32767) k.up).1 (subst (λ (y : ℤ). r ≤ℤ y) c.top h),
        λ h. subst (λ (y : ℤ). r ≤ℤ y) (sym c.top) ((le_shift_right r (pos 32767) k.up).0 h),
      )

  module _ (m : ℕ) (level : ℤ) where
    pub compact_clip : compact_level k m level ≡ clip3 (negsuc 32767) (pos 32767) (pow2 k.up *ℤ compact_result k m level)
    unfolding compact_level clip3
    compact_clip = rw (low_is (compact_result k m level), top_is (compact_result k m level))

    pub compact_fits : SFits w16 (compact_level k m level)
    compact_fits =
        subst (λ (z : ℤ). SFits w16 z) (sym compact_clip)
        (clip3_fits (negsuc 32767) (pos 32767) (pow2 k.up *ℤ compact_result k m level) (record { sfits = lit< tt }) (record { sfits = lit< tt }))

pub compact_between : (k : ListedParams) (m : ℕ) (level : ℤ) → lt_z (compact_result k m level) k.low ≡ false → lt_z k.top (compact_result k m level) ≡ false
    → pow2 k.up *ℤ compact_result k m level ≡ compact_level k m level
unfolding compact_level
compact_between k m level a b = rw (a, b)

-- what was limited, by where the result lies
pub or_true : (x : Bool) → (x || true) ≡ true
or_true true = refl
or_true false = refl

pub or_false : (x : Bool) → (x || false) ≡ x
or_false true = refl
or_false false = refl

module _ (k : ListedParams) (m : ℕ) (level : ℤ) where
  abbrev outside : Bool
  outside = lt_z level (negsuc 32767) || lt_z (pos 32767) level

  pub limited_below : lt_z (compact_result k m level) k.low ≡ true → compact_limited k m level ≡ true
  unfolding compact_limited
  limited_below a = rw a (or_true outside)

  pub limited_above : lt_z (compact_result k m level) k.low ≡ false → lt_z k.top (compact_result k m level) ≡ true → compact_limited k m level ≡ true
  unfolding compact_limited
  limited_above a b = rw (a, b) (or_true outside)

  pub limited_between : lt_z (compact_result k m level) k.low ≡ false → lt_z k.top (compact_result k m level) ≡ false → compact_limited k m level ≡ outside
  unfolding compact_limited
  limited_between a b = rw (a, b) (or_false outside)

module _ {p : DequantParams} {k : ListedParams} (h : ListedFor p k) (m : ℕ) (level : ℤ) where
  pub compact_value : compact_level k m level ≡ listed_level p m level
  unfolding listed_level level_by listed_result result_by
  compact_value =
      compact_clip h.compact m level
      ∙ ap (λ (z : ℤ). clip3 (negsuc 32767) (pos 32767) z) (sym (h.result m level))
      ∙ ap₂ (λ (a : ℤ) (b : ℤ). clip3 a b (listed_result p m level)) (sym h.least) (sym h.most)

  pub compact_limited_lem : compact_limited k m level ≡ listed_limited p m level
  unfolding compact_limited listed_limited outside_by
  compact_limited_lem =
      ap₂ (λ (x : Bool) (y : Bool). (lt_z level (negsuc 32767) || lt_z (pos 32767) level) || (x || y))
      (low_is h.compact (compact_result k m level) ∙ ap (λ (z : ℤ). lt_z z (negsuc 32767)) (sym (h.result m level)))
      (top_is h.compact (compact_result k m level) ∙ ap (λ (z : ℤ). lt_z (pos 32767) z) (sym (h.result m level)))
      ∙ ap₂ (λ (a : ℤ) (b : ℤ). (lt_z level a || lt_z b level) || (lt_z (listed_result p m level) a || lt_z b (listed_result p m level))) (sym h.least) (sym h.most)

module _ {p : DequantParams} {k : ListedParams} (h : ListedFor p k) (entries : List ℕ) (levels : List ℤ) where
  pub compact_counted : {n m : ℕ} {out after : List ℤ} → Counted (compact_at k entries levels) (compact_limited_at k entries levels) n out after m
      → Counted (direct_at p entries levels) (direct_limited_at p entries levels) n out after m
  unfolding compact_at compact_limited_at direct_at direct_limited_at
  compact_counted {n} {out = out} c =
      record {
        out = c.out ∙ overwrite_cong n (compact_at k entries levels) (direct_at p entries levels) out (λ i a. compact_value h (get_or entries i 0) (get_or levels i (pos 0)));
        count = c.count ∙ count_cong (compact_limited_at k entries levels) (direct_limited_at p entries levels) n (λ i a. compact_limited_lem h (get_or entries i 0) (get_or levels i (pos 0)));
      }

-- ---- every block
abbrev pub zeros_of : ℕ → ℕ
zeros_of s = count_trailing_zeros 32 s

module _ (q : ℕ) (h : q ≤ 99) where
  pub scale_odd : scale_of_qp q / 2 ^ zeros_of (scale_of_qp q) < 64
  unfolding all_below scale_of_qp level_scale count_trailing_zeros
  scale_odd = ltb→lt (scale_of_qp q / 2 ^ zeros_of (scale_of_qp q)) 64 (all_below_at 100 (λ k. ltb (scale_of_qp k / 2 ^ zeros_of (scale_of_qp k)) 64) tt q (omega arith))

  pub scale_whole : scale_of_qp q / 2 ^ zeros_of (scale_of_qp q) * 2 ^ zeros_of (scale_of_qp q) ≡ scale_of_qp q
  unfolding all_below scale_of_qp level_scale count_trailing_zeros
  scale_whole =
      eqb→eq (scale_of_qp q / 2 ^ zeros_of (scale_of_qp q) * 2 ^ zeros_of (scale_of_qp q)) (scale_of_qp q)
      (all_below_at 100 (λ k. eqb (scale_of_qp k / 2 ^ zeros_of (scale_of_qp k) * 2 ^ zeros_of (scale_of_qp k)) (scale_of_qp k)) tt q (omega arith))

  scale_zeros : zeros_of (scale_of_qp q) < q / 6 + 7
  unfolding all_below scale_of_qp level_scale count_trailing_zeros
  scale_zeros = ltb→lt (zeros_of (scale_of_qp q)) (q / 6 + 7) (all_below_at 100 (λ k. ltb (zeros_of (scale_of_qp k)) (k / 6 + 7)) tt q (omega arith))

range_is : (r : ℕ) → 15 ≤ r → coeff_max r ≡ pos 32767 → r ≡ 15
range_is r h e =
    let m : 2 ^ r - 1 ≡ 32767 = ap nat_abs (sym (coeff_max_pos r) ∙ e) in
    elim (dec_lt r 16) [
      | yes a ↦ omega (arith, h, a)
      | no a ↦ absurd (let x : ⊥ = omega (arith, m, pow_mono {i = 16} {j = r} (omega (arith, a))) in x)
    ]

pub qp_depth : (b : ℕ) (q : ℤ) → nat_abs (clip_qp_prime b q) ≤ 51 + 6 * (b - 8)
unfolding clip_qp_prime qp_bd_offset
qp_depth b q =
    (clip3_within {b = 51 + 6 * (b - 8)} (pos 0) (pos (51 + 6 * (b - 8))) q (le_out (pos 0) (pos (51 + 6 * (b - 8))) (omega arith)) (within_pos (omega arith)) (within_pos (omega arith))).within

module _ (l : ℕ) (q : ℤ) (b : ℕ) (x : Bool) (k : KnownSize l b) where
  abbrev qp : ℕ
  qp = nat_abs (clip_qp_prime b q)

  abbrev params : DequantParams
  params = dequant_of l q b x

  pub factor_is : shift_right params.factor 4 ≡ pos (scale_of_qp qp)
  unfolding dequant_of shift_right
  factor_is = ap pos (omega arith)

  pub scale_is : scale_by params ≡ scale_of_qp qp
  unfolding scale_by
  scale_is = ap nat_abs factor_is

  abbrev at_most : qp ≤ 99
  at_most = clip_qp_prime_bound b q k.shallow

  module _ (e : coeff_max (transform_range b x) ≡ pos 32767) where
    range_15 : transform_range b x ≡ 15
    range_15 = range_is (transform_range b x) (transform_range_least b x) e

    pub dequant_of_listable : Listable params
    unfolding dequant_of bd_shift coeff_min
    dequant_of_listable =
        record {
          factor = factor_is ∙ ap pos (sym scale_is);
          size = rw scale_is (scale_of_qp_bound qp at_most);
          odd = subst (λ (s : ℕ). s / 2 ^ zeros_of s < 64) (sym scale_is) (scale_odd qp at_most);
          whole = subst (λ (s : ℕ). s / 2 ^ zeros_of s * 2 ^ zeros_of s ≡ s) (sym scale_is) (scale_whole qp at_most);
          power = subst (λ (s : ℕ). zeros_of s < b + l + 10 - transform_range b x + 10) (sym scale_is) (omega (arith, k, range_15, qp_depth b q, scale_zeros qp at_most));
          small = subst (λ (s : ℕ). zeros_of s < 32) (sym scale_is) (omega (arith, k, qp_depth b q, scale_zeros qp at_most));
          add = refl;
          low = omega (arith, k, range_15);
          high = omega (arith, k, range_15);
          least = ap coeff_min range_15;
          most = e;
        }

-- ---- the numbers of a block, as they are worked out
pub zeros_by_is : (p : DequantParams) {k : ℕ} → k ≡ scale_by p → count_trailing_zeros 32 k ≡ zeros_by p
zeros_by_is p e = ap (count_trailing_zeros 32) e

pub odd_by_is : (p : DequantParams) {k : ℕ} {z : ℤ} → z ≡ pos (k / 2 ^ count_trailing_zeros 32 k % 64) → k ≡ scale_by p → odd_by p < 64 → z ≡ pos (odd_by p)
odd_by_is p d e h = d ∙ ap (λ (i : ℕ). pos (i / 2 ^ count_trailing_zeros 32 i % 64)) e ∙ ap pos (mod-eq_of_lt h)

-- ---- what 32 bits hold
pub compact_numbers : {k : ListedParams} → Compact k → NumbersFit k.base k.add k.low k.top
compact_numbers {k} c =
    record {
      base = within_fits tt c.base;
      add = within_fits tt c.add;
      low = within_fits tt c.lowest;
      top = within_fits {b = 32767} tt (within_eq c.top (shift_right_within k.up (record { within = omega arith })));
    }

pub factor_within : {m : ℕ} {z : ℤ} → m ≤ 255 → Within 63 z → Within (255 * 63) (pos m *ℤ z)
factor_within h w = within_mul {a = 255} (within_pos h) w
