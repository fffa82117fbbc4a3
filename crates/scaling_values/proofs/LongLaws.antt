-- Laws of levels with a list at every range, in 32 bits.
--   rest_low, rest_high, rest_sum   what a number has beside the multiple of 128 below it
--   over_parts, rest_parts          the two parts of a product, by those of the level
--   near_clip, near_within, near_high   a limited level: its size, and that of its first part
--   over_fits, whole_fits           32 bits hold a product that is not limited
--   long_clip, long_fits            the coefficient is the result limited, and fits 32 bits
--   long_between                    between the two bounds it is the product shifted
--   long_below, -above, -inside     whether level or result was limited, by where the product lies
--   lowered_for, raised_for         the numbers of a block
--   long_numbers                    32 bits hold them
--   lowered_end_is, raised_end_is   where its range ends, as it is worked out
--   long_counted                    what is written and counted by them is the block's
--   dequant_of-listed                the numbers of every block are long, and listable where R = 15
use mathlib.Core.Path.{◌≡◌, refl, sym, ap, ap₂, subst, ◌∙◌}
use mathlib.Core.Bool.{Bool, true, false, ◌||◌}
use mathlib.Core.List.{List}
use Prim.Native.Nat.{ℕ, ◌+◌, ◌-◌, ◌*◌, ◌/◌, ◌%◌, ◌^◌, ◌≤◌, ◌<◌}
use native.Mathlib.Nat.{mod-eq_of_lt}
use native.Mathlib.Omega.{arith}
use lib.Count.{count_trailing_zeros}
use lib.Dec.{ltb, ltb→lt, lit<}
use lib.IntN.{ℤ, pos, negsuc, neg_ℤ, nat_abs, ◌+ℤ◌, ◌-ℤ◌, ◌*ℤ◌, +ℤ_comm, +ℤ_idr, pos-*ℤ-pos}
use lib.ListN.{get_or}
use lib.Pow.{pow-add, pow_mono, pow_pos, pow-lt, shl-shr, shr-shr}
use lib.Signed.{shr_z, lt_z, ◌≤ℤ◌, ◌<ℤ◌}
use mir.Syntax.{w16, w32}
use mir.Val.{SFits}
use Rattle.integers.specs.Clip.{clip3}
use Rattle.integers.specs.Shift.{pow2, shift_right}
use Rattle.integers.specs.Within.{Within}
use Rattle.integers.proofs.LinearLaws.{parts_add, parts_neg, parts_mul, le_in, le_out, lt_in, lt_out, split, ring, diff_ext}
use Rattle.integers.proofs.OrderLaws.{one-*ℤ, ≤ℤ_trans, *ℤ_mono, shr_floor, shr_shift}
use Rattle.integers.proofs.ShiftLaws.{le_shift_right, shift_right_zero, shift_right_mono}
use Rattle.integers.proofs.BoundLaws.{within_pos, within_out, within_fits}
use Rattle.integers.proofs.MachineLaws.{lt_z_true, lt_z_false, lt_z_of_lt, lt_z_of_le}
use Rattle.integers.proofs.ListsLaws.{overwrite_cong}
use Rattle.integers.proofs.ClipLaws.{clip3_between}
use Rattle.integers.proofs.TestLaws.{all_below, all_below_at}
use Rattle.h265.specs.Range.{transform_range, coeff_min}
use Rattle.h265.specs.Quantization.{clip_qp_prime, level_scale, scale_of_qp}
use Rattle.h265.specs.Scaling.{bd_shift}
use Rattle.h265.proofs.RangeLaws.{transform_range_least, transform_range_most, transform_range_depth}
use Rattle.h265.proofs.QuantizationLaws.{clip_qp_prime_bound, scale_of_qp_bound}
use Rattle.parameters.specs.declared.DequantParams.{DequantParams}
use Rattle.parameters.specs.Parameters.{dequant_of, KnownSize}
use Rattle.scaling_values.specs.declared.LongParams.{LongParams}
use Rattle.scaling_values.specs.Level.{level_by, listed_level, outside_by, result_by, listed_result, listed_limited}
use Rattle.scaling_values.specs.Listed.{zeros_by, odd_by}
use Rattle.scaling_values.specs.Long.{long_product, long_level, long_limited, long_at, long_limited_at, rest_of, long_by, Near, Longable, Listed, Long, LongFor}
use Rattle.scaling_values.specs.Work.{direct_at, direct_limited_at, Counted}
use Rattle.scaling_values.proofs.CountLaws.{count_cong}
use Rattle.scaling_values.proofs.LevelLaws.{NumbersFit, between_fits, clip3_fits}
use Rattle.scaling_values.proofs.ThresholdLaws.{coeff_max_pos}
use Rattle.scaling_values.proofs.ListedLaws.{lt_z_iff, scaled_back, lowered_by_lem, raised_by_lem, or_true, or_false, zeros_of, scale_odd, scale_whole, qp_depth, factor_is, scale_is, dequant_of_listable}

-- ---- two parts
module _ (z : ℤ) where
  abbrev over : ℤ
  over = shr_z z 128

  pub rest_low : pos 0 ≤ℤ rest_of z
  unfolding rest_of shift_right
  rest_low =
      le_out (pos 0) (z -ℤ over *ℤ pos 128)
      (omega (arith, shr_floor z 128 (omega arith), parts_add z (neg_ℤ (over *ℤ pos 128)), parts_neg (over *ℤ pos 128), parts_mul over (pos 128)))

  pub rest_high : rest_of z ≤ℤ pos 127
  unfolding rest_of shift_right
  rest_high =
      le_out (z -ℤ over *ℤ pos 128) (pos 127)
      (omega (arith, shr_floor z 128 (omega arith), parts_add z (neg_ℤ (over *ℤ pos 128)), parts_neg (over *ℤ pos 128), parts_mul over (pos 128)))

  pub rest_sum : shift_right z 7 *ℤ pos 128 +ℤ rest_of z ≡ z
  unfolding rest_of shift_right
  rest_sum = add_back (over *ℤ pos 128) z
    where
      add_back : (x y : ℤ) → x +ℤ (y -ℤ x) ≡ y
      add_back x y = rw (← split x, ← split y) (simp ring (diff_ext _ _ _ _ (omega arith)))

-- a product by the parts of its first factor
regroup : (x q f a : ℤ) → x *ℤ f +ℤ a ≡ ((x -ℤ q *ℤ pos 128) *ℤ f +ℤ a) +ℤ pos 128 *ℤ (q *ℤ f)
regroup x q f a = rw (← split x, ← split q, ← split f, ← split a) (simp ring (diff_ext _ _ _ _ (omega arith)))

rest_regroup : (x q f a s : ℤ) → (x *ℤ f +ℤ a) -ℤ (q *ℤ f +ℤ s) *ℤ pos 128 ≡ ((x -ℤ q *ℤ pos 128) *ℤ f +ℤ a) -ℤ s *ℤ pos 128
rest_regroup x q f a s = rw (← split x, ← split q, ← split f, ← split a, ← split s) (simp ring (diff_ext _ _ _ _ (omega arith)))

module _ (x f a : ℤ) where
  pub over_parts : shift_right (x *ℤ f +ℤ a) 7 ≡ shift_right x 7 *ℤ f +ℤ shift_right (rest_of x *ℤ f +ℤ a) 7
  unfolding rest_of shift_right
  over_parts =
      ap (λ (z : ℤ). shr_z z 128) (regroup x (shr_z x 128) f a)
      ∙ shr_shift ((x -ℤ shr_z x 128 *ℤ pos 128) *ℤ f +ℤ a) (shr_z x 128 *ℤ f) 128 (omega arith)
      ∙ +ℤ_comm (shr_z ((x -ℤ shr_z x 128 *ℤ pos 128) *ℤ f +ℤ a) 128) (shr_z x 128 *ℤ f)

  pub rest_parts : rest_of (x *ℤ f +ℤ a) ≡ rest_of (rest_of x *ℤ f +ℤ a)
  unfolding rest_of
  rest_parts =
      ap (λ (y : ℤ). (x *ℤ f +ℤ a) -ℤ y *ℤ pos 128) over_parts
      ∙ rest_regroup x (shift_right x 7) f a (shift_right ((x -ℤ shift_right x 7 *ℤ pos 128) *ℤ f +ℤ a) 7)

-- ---- a limited level
pub near_within : {z : ℤ} → Near z → Within 4194304 z
near_within {z} h = within_out z (omega (arith, le_in h.low, le_in h.high))

pub near_high : {z : ℤ} → Near z → SFits w16 (shift_right z 7)
unfolding shift_right
near_high {z} h =
    between_fits (negsuc 32767) (pos 32767) (shift_right z 7) (record { sfits = lit< tt }) (record { sfits = lit< tt }) (shift_right_mono 7 h.low) (shift_right_mono 7 h.high)

module _ {k : LongParams} (c : Long k) where
  pub near_clip : (level : ℤ) → Near (clip3 k.least k.most level)
  near_clip level =
      let b = clip3_between k.least k.most level c.ordered in
      record { low = ≤ℤ_trans c.least.low b.0; high = ≤ℤ_trans b.1 c.most.high }

  -- ---- 32 bits
  module _ (o : ℤ) (a : k.low ≤ℤ o) (b : o ≤ℤ k.top) where
    pub over_fits : SFits w32 (o *ℤ pos 128)
    over_fits =
        between_fits (negsuc 2147483647) (pos 2147483647) (o *ℤ pos 128) (record { sfits = lit< tt }) (record { sfits = lit< tt })
        (le_out (negsuc 2147483647) (o *ℤ pos 128) (omega (arith, parts_mul o (pos 128), le_in a, le_in c.low)))
        (le_out (o *ℤ pos 128) (pos 2147483647) (omega (arith, parts_mul o (pos 128), le_in b, le_in c.top)))

    pub whole_fits : (r : ℤ) → pos 0 ≤ℤ r → r ≤ℤ pos 127 → SFits w32 (o *ℤ pos 128 +ℤ r)
    whole_fits r l h =
        between_fits (negsuc 2147483647) (pos 2147483647) (o *ℤ pos 128 +ℤ r) (record { sfits = lit< tt }) (record { sfits = lit< tt })
        (le_out (negsuc 2147483647) (o *ℤ pos 128 +ℤ r) (omega (arith, parts_add (o *ℤ pos 128) r, parts_mul o (pos 128), le_in a, le_in c.low, le_in l)))
        (le_out (o *ℤ pos 128 +ℤ r) (pos 2147483647) (omega (arith, parts_add (o *ℤ pos 128) r, parts_mul o (pos 128), le_in b, le_in c.top, le_in h)))

  -- ---- the coefficient
  module _ (m : ℕ) (level : ℤ) where
    pub long_clip : long_level k m level ≡ clip3 k.least k.most (pow2 k.up *ℤ shift_right (long_product k m level) k.down)
    unfolding long_level clip3
    long_clip = rw (c.under (long_product k m level), c.over (long_product k m level))

    pub long_fits : SFits w32 (long_level k m level)
    long_fits =
        subst (λ (z : ℤ). SFits w32 z) (sym long_clip)
        (clip3_fits k.least k.most (pow2 k.up *ℤ shift_right (long_product k m level) k.down) (within_fits tt (near_within c.least)) (within_fits tt (near_within c.most)))

-- what was limited, by where the product lies
module _ (k : LongParams) (m : ℕ) (level : ℤ) where
  abbrev outside : Bool
  outside = lt_z level k.least || lt_z k.most level

  abbrev part : ℤ
  part = shift_right (long_product k m level) 7

  pub long_between : lt_z part k.low ≡ false → lt_z k.top part ≡ false → pow2 k.up *ℤ shift_right (long_product k m level) k.down ≡ long_level k m level
  unfolding long_level
  long_between a b = rw (a, b)

  pub long_below : lt_z part k.low ≡ true → long_limited k m level ≡ true
  unfolding long_limited
  long_below a = rw a (or_true outside)

  pub long_above : lt_z part k.low ≡ false → lt_z k.top part ≡ true → long_limited k m level ≡ true
  unfolding long_limited
  long_above a b = rw (a, b) (or_true outside)

  pub long_inside : lt_z part k.low ≡ false → lt_z k.top part ≡ false → long_limited k m level ≡ outside
  unfolding long_limited
  long_inside a b = rw (a, b) (or_false outside)

-- ---- the block's
module _ {p : DequantParams} {k : LongParams} (h : LongFor p k) (m : ℕ) (level : ℤ) where
  pub long_value : long_level k m level ≡ listed_level p m level
  unfolding listed_level level_by listed_result result_by
  long_value =
      long_clip h.long m level
      ∙ ap (λ (z : ℤ). clip3 k.least k.most z) (sym (h.result m level))
      ∙ ap₂ (λ (a : ℤ) (b : ℤ). clip3 a b (listed_result p m level)) (sym h.least) (sym h.most)

  pub long_limited_lem : long_limited k m level ≡ listed_limited p m level
  unfolding long_limited listed_limited outside_by
  long_limited_lem =
      ap₂ (λ (x : Bool) (y : Bool). (lt_z level k.least || lt_z k.most level) || (x || y))
      (h.long.under (long_product k m level) ∙ ap (λ (z : ℤ). lt_z z k.least) (sym (h.result m level)))
      (h.long.over (long_product k m level) ∙ ap (λ (z : ℤ). lt_z k.most z) (sym (h.result m level)))
      ∙ ap₂ (λ (a : ℤ) (b : ℤ). (lt_z level a || lt_z b level) || (lt_z (listed_result p m level) a || lt_z b (listed_result p m level))) (sym h.least) (sym h.most)

module _ {p : DequantParams} {k : LongParams} (h : LongFor p k) (entries : List ℕ) (levels : List ℤ) where
  pub long_counted : {n m : ℕ} {out after : List ℤ} → Counted (long_at k entries levels) (long_limited_at k entries levels) n out after m
      → Counted (direct_at p entries levels) (direct_limited_at p entries levels) n out after m
  unfolding long_at long_limited_at direct_at direct_limited_at
  long_counted {n} {out = out} c =
      record {
        out = c.out ∙ overwrite_cong n (long_at k entries levels) (direct_at p entries levels) out (λ i a. long_value h (get_or entries i 0) (get_or levels i (pos 0)));
        count = c.count ∙ count_cong (long_limited_at k entries levels) (direct_limited_at p entries levels) n (λ i a. long_limited_lem h (get_or entries i 0) (get_or levels i (pos 0)));
      }

-- ---- where the range ends
lowered_end : (e end z : ℤ) (d : ℕ) → pow2 7 *ℤ e ≡ pow2 d *ℤ end → lt_z (shift_right z 7) e ≡ lt_z (pos 1 *ℤ shift_right z d) end
lowered_end e end z d h = lt_z_iff (to, from) ∙ ap (λ (y : ℤ). lt_z y end) (sym (one-*ℤ (shift_right z d)))
  where
    to : e ≤ℤ shift_right z 7 → end ≤ℤ shift_right z d
    to k = (le_shift_right end z d).0 (subst (λ (y : ℤ). y ≤ℤ z) h ((le_shift_right e z 7).1 k))

    from : end ≤ℤ shift_right z d → e ≤ℤ shift_right z 7
    from k = (le_shift_right e z 7).0 (subst (λ (y : ℤ). y ≤ℤ z) (sym h) ((le_shift_right end z d).1 k))

raised_end : (e end z : ℤ) (u : ℕ) → pow2 u *ℤ (pow2 7 *ℤ e) ≡ end → lt_z (shift_right z 7) e ≡ lt_z (pow2 u *ℤ shift_right z 0) end
raised_end e end z u h = lt_z_iff (to, from) ∙ ap (λ (y : ℤ). lt_z (pow2 u *ℤ y) end) (sym (shift_right_zero z))
  where
    to : e ≤ℤ shift_right z 7 → end ≤ℤ (pow2 u *ℤ z)
    to k = subst (λ (y : ℤ). y ≤ℤ (pow2 u *ℤ z)) h (*ℤ_mono (2 ^ u) ((le_shift_right e z 7).1 k))

    from : end ≤ℤ (pow2 u *ℤ z) → e ≤ℤ shift_right z 7
    from k =
        (le_shift_right e z 7).0
        (subst (λ (y : ℤ). (pow2 7 *ℤ e) ≤ℤ y) (scaled_back u z)
        ((le_shift_right (pow2 7 *ℤ e) (pow2 u *ℤ z) u).0 (subst (λ (y : ℤ). y ≤ℤ (pow2 u *ℤ z)) (sym h) k)))

-- the same of the upper end, which is one less
upper_end : (e m : ℕ) (s r : ℤ) → 1 ≤ e → lt_z s (pos e) ≡ lt_z r (pos (m + 1)) → lt_z (pos (e - 1)) s ≡ lt_z (pos m) r
upper_end e m s r h q = by_test (lt_z r (pos (m + 1))) q refl
  where
    by_test : (x : Bool) → lt_z s (pos e) ≡ x → lt_z r (pos (m + 1)) ≡ x → lt_z (pos (e - 1)) s ≡ lt_z (pos m) r
    by_test true a b =
        let k : s <ℤ pos e = lt_z_true a in
        let l : r <ℤ pos (m + 1) = lt_z_true b in
        lt_z_of_le (le_out s (pos (e - 1)) (omega (arith, lt_in k, h))) ∙ sym (lt_z_of_le (le_out r (pos m) (omega (arith, lt_in l))))
    by_test false a b =
        let k : pos e ≤ℤ s = lt_z_false a in
        let l : pos (m + 1) ≤ℤ r = lt_z_false b in
        lt_z_of_lt (lt_out (pos (e - 1)) s (omega (arith, le_in k, h))) ∙ sym (lt_z_of_lt (lt_out (pos m) r (omega (arith, le_in l))))

times_neg : (x y : ℤ) → x *ℤ neg_ℤ y ≡ neg_ℤ (x *ℤ y)
times_neg x y = rw (← split x, ← split y) (simp ring (diff_ext _ _ _ _ (omega arith)))

pow_times : (i j : ℕ) → pow2 i *ℤ pow2 j ≡ pow2 (i + j)
pow_times i j = pos-*ℤ-pos (2 ^ i) (2 ^ j) ∙ ap pos (sym (pow-add 2 i j))

-- ---- the numbers of a block
module _ {p : DequantParams} (g : Longable p) (m : ℕ) (level : ℤ) where
  abbrev near : ℤ
  near = clip3 p.clip_min p.clip_max level

  product_result : listed_result p m level ≡ shift_right (near *ℤ (pos (odd_by p * 2 ^ zeros_by p) *ℤ pos m) +ℤ pow2 (p.shift - 1)) p.shift
  unfolding listed_result result_by
  product_result =
      ap (λ (f : ℤ). shift_right (near *ℤ (f *ℤ pos m) +ℤ p.add) p.shift) (g.factor ∙ ap pos (sym g.whole))
      ∙ rw g.add

  lowered_near : zeros_by p < p.shift
      → listed_result p m level ≡ shift_right (near *ℤ (pos m *ℤ pos (odd_by p)) +ℤ pow2 (p.shift - zeros_by p - 1)) (p.shift - zeros_by p)
  lowered_near h =
      let e : p.shift ≡ zeros_by p + (p.shift - zeros_by p) = omega arith in
      product_result
      ∙ ap (λ (k : ℕ). shift_right (near *ℤ (pos (odd_by p * 2 ^ zeros_by p) *ℤ pos m) +ℤ pow2 (k - 1)) k) e
      ∙ lowered_by_lem near (odd_by p) (zeros_by p) (p.shift - zeros_by p) m (omega arith)

  raised_near : p.shift ≤ zeros_by p → listed_result p m level ≡ pow2 (zeros_by p - p.shift) *ℤ (near *ℤ (pos m *ℤ pos (odd_by p)))
  raised_near h =
      let e : zeros_by p ≡ p.shift + (zeros_by p - p.shift) = omega arith in
      product_result
      ∙ ap (λ (k : ℕ). shift_right (near *ℤ (pos (odd_by p * 2 ^ k) *ℤ pos m) +ℤ pow2 (p.shift - 1)) p.shift) e
      ∙ raised_by_lem near (odd_by p) p.shift (zeros_by p - p.shift) m (omega (arith, g.low))

module _ {p : DequantParams} (g : Longable p) (most : ℕ) (top : most + 1 ≡ 2 ^ g.range) where
  abbrev range : ℕ
  range = g.range

  least_is : p.clip_min ≡ neg_ℤ (pos (most + 1))
  unfolding coeff_min
  least_is = g.least ∙ ap (λ (n : ℕ). neg_ℤ (pos n)) (sym top)

  most_is : p.clip_max ≡ pos most
  most_is = g.most ∙ coeff_max_pos range ∙ ap pos (let e : 2 ^ range - 1 ≡ most = omega (arith, top) in e)

  small : most ≤ 4194303
  small = omega (arith, top, pow_mono {i = range} {j = 22} g.narrow)

  module _ (j : ℕ) (few : j ≤ 24) (base add : ℤ) (down up : ℕ) (b : Within 63 base) (a : Within 32768 add) (d : down < 32) (u : up < 32)
      (under : (z : ℤ) → lt_z (shift_right z 7) (neg_ℤ (pow2 j)) ≡ lt_z (pow2 up *ℤ shift_right z down) (neg_ℤ (pos (most + 1))))
      (over : (z : ℤ) → lt_z (shift_right z 7) (pow2 j) ≡ lt_z (pow2 up *ℤ shift_right z down) (pos (most + 1))) where
    long_is : Long (long_by base add down up (2 ^ j) most)
    long_is =
        let end = pow_pos j in
        let far = pow_mono {i = j} {j = 24} few in
        record {
          base = b;
          add = a;
          down = d;
          up = u;
          ordered = le_out (neg_ℤ (pos (most + 1))) (pos most) (omega (arith, parts_neg (pos (most + 1))));
          least =
              record {
                low = le_out (negsuc 4194303) (neg_ℤ (pos (most + 1))) (omega (arith, parts_neg (pos (most + 1)), small));
                high = le_out (neg_ℤ (pos (most + 1))) (pos 4194303) (omega (arith, parts_neg (pos (most + 1))));
              };
          most = record { low = le_out (negsuc 4194303) (pos most) (omega arith); high = le_out (pos most) (pos 4194303) (omega (arith, small)) };
          low = le_out (negsuc 16777215) (neg_ℤ (pow2 j)) (omega (arith, parts_neg (pow2 j), far));
          lowest = le_out (neg_ℤ (pow2 j)) (pos 0) (omega (arith, parts_neg (pow2 j)));
          top = le_out (pos (2 ^ j - 1)) (pos 16777215) (omega (arith, far));
          topmost = le_out (pos 0) (pos (2 ^ j - 1)) (omega arith);
          under = under;
          over = λ z. upper_end (2 ^ j) most (shift_right z 7) (pow2 up *ℤ shift_right z down) (omega (arith, end)) (over z);
        }

  module _ (h : zeros_by p < p.shift) where
    abbrev down_by : ℕ
    down_by = p.shift - zeros_by p

    abbrev low_end : ℕ
    low_end = range + down_by - 7

    low_same : pow2 7 *ℤ pow2 low_end ≡ pow2 down_by *ℤ pos (most + 1)
    low_same =
        pow_times 7 low_end
        ∙ ap (λ (k : ℕ). pow2 k) (let e : 7 + low_end ≡ down_by + range = omega (arith, g.wide) in e)
        ∙ sym (pow_times down_by range)
        ∙ ap (λ (k : ℕ). pow2 down_by *ℤ pos k) (sym top)

    pub lowered_for : LongFor p (long_by (pos (odd_by p)) (pow2 (p.shift - zeros_by p - 1)) (p.shift - zeros_by p) 0 (2 ^ (g.range + (p.shift - zeros_by p) - 7)) most)
    unfolding long_product
    lowered_for =
        record {
          long =
              long_is low_end (omega (arith, g.together)) (pos (odd_by p)) (pow2 (down_by - 1)) down_by 0 (within_pos (omega (arith, g.odd)))
              (within_pos (pow_mono {i = down_by - 1} {j = 15} (omega (arith, g.together, g.wide)))) (omega (arith, g.high)) (omega arith)
              (λ z. lowered_end (neg_ℤ (pow2 low_end)) (neg_ℤ (pos (most + 1))) z down_by (times_neg (pow2 7) (pow2 low_end) ∙ ap neg_ℤ low_same ∙ sym (times_neg (pow2 down_by) (pos (most + 1)))))
              (λ z. lowered_end (pow2 low_end) (pos (most + 1)) z down_by low_same);
          least = least_is;
          most = most_is;
          result =
              λ m level.
              lowered_near g m level h
              ∙ ap₂ (λ (a : ℤ) (b : ℤ). shift_right (clip3 a b level *ℤ (pos m *ℤ pos (odd_by p)) +ℤ pow2 (down_by - 1)) down_by) least_is most_is
              ∙ sym (one-*ℤ _);
        }

  module _ (h : p.shift ≤ zeros_by p) where
    abbrev up_by : ℕ
    up_by = zeros_by p - p.shift

    abbrev high_end : ℕ
    high_end = range - up_by - 7

    high_same : pow2 up_by *ℤ (pow2 7 *ℤ pow2 high_end) ≡ pos (most + 1)
    high_same =
        ap (λ (y : ℤ). pow2 up_by *ℤ y) (pow_times 7 high_end) ∙ pow_times up_by (7 + high_end)
        ∙ ap (λ (k : ℕ). pow2 k) (let e : up_by + (7 + high_end) ≡ range = omega (arith, g.power, h) in e)
        ∙ ap pos (sym top)

    plain : (z : ℤ) → shift_right (z +ℤ pos 0) 0 ≡ z
    plain z = shift_right_zero (z +ℤ pos 0) ∙ +ℤ_idr z

    pub raised_for : LongFor p (long_by (pos (odd_by p)) (pos 0) 0 (zeros_by p - p.shift) (2 ^ (g.range - (zeros_by p - p.shift) - 7)) most)
    unfolding long_product
    raised_for =
        record {
          long =
              long_is high_end (omega (arith, g.narrow)) (pos (odd_by p)) (pos 0) 0 up_by (within_pos (omega (arith, g.odd))) (within_pos (omega arith)) (omega arith)
              (omega (arith, g.small))
              (λ z. raised_end (neg_ℤ (pow2 high_end)) (neg_ℤ (pos (most + 1))) z up_by (ap (λ (y : ℤ). pow2 up_by *ℤ y) (times_neg (pow2 7) (pow2 high_end)) ∙ times_neg (pow2 up_by) (pow2 7 *ℤ pow2 high_end) ∙ ap neg_ℤ high_same))
              (λ z. raised_end (pow2 high_end) (pos (most + 1)) z up_by high_same);
          least = least_is;
          most = most_is;
          result =
              λ m level.
              raised_near g m level h
              ∙ ap₂ (λ (a : ℤ) (b : ℤ). pow2 up_by *ℤ (clip3 a b level *ℤ (pos m *ℤ pos (odd_by p)))) least_is most_is
              ∙ ap (λ (z : ℤ). pow2 up_by *ℤ z) (sym (plain (clip3 (neg_ℤ (pos (most + 1))) (pos most) level *ℤ (pos m *ℤ pos (odd_by p)))));
        }

-- the end as it is worked out
pub lowered_end_is : {p : DequantParams} (g : Longable p) → zeros_by p < p.shift
    → ((2 ^ g.range - 1 + 1) * 2 ^ (p.shift - zeros_by p)) % 4294967296 / 2 ^ 7 ≡ 2 ^ (g.range + (p.shift - zeros_by p) - 7)
lowered_end_is {p} g h =
    let r : ℕ = g.range in
    let d : ℕ = p.shift - zeros_by p in
    let j : ℕ = r + d - 7 in
    let one : 2 ^ r - 1 + 1 ≡ 2 ^ r = omega (arith, pow_pos r) in
    let sum : r + d ≡ j + 7 = omega (arith, g.wide) in
    ap (λ (k : ℕ). (k * 2 ^ d) % 4294967296 / 2 ^ 7) one
    ∙ ap (λ (k : ℕ). k % 4294967296 / 2 ^ 7) (sym (pow-add 2 r d))
    ∙ ap (λ (k : ℕ). k / 2 ^ 7) (mod-eq_of_lt (pow-lt {i = r + d} {j = 32} (omega (arith, g.together))))
    ∙ ap (λ (k : ℕ). 2 ^ k / 2 ^ 7) sum
    ∙ ap (λ (k : ℕ). k / 2 ^ 7) (pow-add 2 j 7)
    ∙ shl-shr (2 ^ j) 7

pub raised_end_is : {p : DequantParams} (g : Longable p) → p.shift ≤ zeros_by p
    → (2 ^ g.range - 1 + 1) / 2 ^ (zeros_by p - p.shift) / 2 ^ 7 ≡ 2 ^ (g.range - (zeros_by p - p.shift) - 7)
raised_end_is {p} g h =
    let r : ℕ = g.range in
    let u : ℕ = zeros_by p - p.shift in
    let j : ℕ = r - u - 7 in
    let one : 2 ^ r - 1 + 1 ≡ 2 ^ r = omega (arith, pow_pos r) in
    let sum : r ≡ j + (u + 7) = omega (arith, g.power) in
    shr-shr (2 ^ r - 1 + 1) u 7
    ∙ ap (λ (k : ℕ). k / 2 ^ (u + 7)) (one ∙ ap (λ (k : ℕ). 2 ^ k) sum ∙ pow-add 2 j (u + 7))
    ∙ shl-shr (2 ^ j) (u + 7)

-- ---- every block
scale_power : (q : ℕ) → q ≤ 99 → zeros_of (scale_of_qp q) < (q + 2) / 6 + 6
unfolding all_below scale_of_qp level_scale count_trailing_zeros
scale_power q h = ltb→lt (zeros_of (scale_of_qp q)) ((q + 2) / 6 + 6) (all_below_at 100 (λ k. ltb (zeros_of (scale_of_qp k)) ((k + 2) / 6 + 6)) tt q (omega arith))

module _ (l : ℕ) (q : ℤ) (b : ℕ) (x : Bool) (k : KnownSize l b) where
  abbrev qp : ℕ
  qp = nat_abs (clip_qp_prime b q)

  abbrev at_most : qp ≤ 99
  at_most = clip_qp_prime_bound b q k.shallow

  dequant_of_longable : Longable (dequant_of l q b x)
  unfolding dequant_of bd_shift
  dequant_of_longable =
      let is = scale_is l q b x k in
      record {
        range = transform_range b x;
        factor = factor_is l q b x k ∙ ap pos (sym is);
        size = rw is (scale_of_qp_bound qp at_most);
        odd = subst (λ (s : ℕ). s / 2 ^ zeros_of s < 64) (sym is) (scale_odd qp at_most);
        whole = subst (λ (s : ℕ). s / 2 ^ zeros_of s * 2 ^ zeros_of s ≡ s) (sym is) (scale_whole qp at_most);
        power = subst (λ (s : ℕ). zeros_of s + 7 ≤ b + l + 10 - transform_range b x + transform_range b x) (sym is) (omega (arith, k, qp_depth b q, scale_power qp at_most, transform_range_depth b x k.deep));
        small = subst (λ (s : ℕ). zeros_of s < 32) (sym is) (omega (arith, k, qp_depth b q, scale_power qp at_most));
        add = refl;
        low = omega (arith, k, transform_range_depth b x k.deep);
        high = omega (arith, k, transform_range_least b x);
        wide = transform_range_least b x;
        narrow = transform_range_most b x k.shallow;
        together = omega (arith, k, transform_range_depth b x k.deep);
        least = refl;
        most = refl;
      }

  pub dequant_of-listed : Listed (dequant_of l q b x)
  unfolding dequant_of
  dequant_of-listed = record { short = λ e. dequant_of_listable l q b x k e; long = dequant_of_longable }

-- ---- what 32 bits hold
pub long_numbers : {k : LongParams} → Long k → NumbersFit k.base k.add k.low k.top
long_numbers {k} c =
    record {
      base = within_fits tt c.base;
      add = within_fits tt c.add;
      low = between_fits (negsuc 16777215) (pos 0) k.low (record { sfits = lit< tt }) (record { sfits = lit< tt }) c.low c.lowest;
      top = between_fits (pos 0) (pos 16777215) k.top (record { sfits = lit< tt }) (record { sfits = lit< tt }) c.topmost c.top;
    }
