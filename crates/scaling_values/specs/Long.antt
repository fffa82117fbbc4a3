-- Levels with a list at every range, in 32 bits; proofs/LongLaws.antt takes them to `listed_level` and `listed_limited`.
--   long_product k m level     level limited × (m × base) + rounding, which 32 bits need not hold
--   long_level k m level       the coefficient: the product shifted, where its part that counts in 128s lies between `low` and `top`; the range's ends past them
--   long_limited k m level     the level lies outside the range, or that part past `low` and `top`
--   long_at, long_limited_at     the same at an index of a block of levels, by entries that stand at the index itself
--   rest_of z                  what z has beside the multiple of 128 below it
--   PartsOf z r               r holds z in its two parts
--   Near z                    a limited level: 16 bits hold its part that counts in 128s
--   long_by                    the numbers of a block by where the range ends
--   Longable p                what holds of the numbers of every block
--   Listed p                  that, and p is listable if R = 15
--   Long k                    every part of a product fits, and `low` and `top` tell what is limited
--   LongFor p k               k has the numbers of p
--   LongScaled k m level r    what the function of one level hands back
use Rattle.std.specs.Prelude.{◌≡◌, Bool, ◌||◌, cond, List, ℕ, ◌+◌, ◌-◌, ◌*◌, ◌^◌, ◌≤◌, ◌<◌, ℤ, pos, negsuc, neg_ℤ, ◌+ℤ◌, ◌-ℤ◌, ◌*ℤ◌, get_or, ◌≤ℤ◌}
use Rattle.std.specs.Int.Signed.{lt_z}
use Rattle.std.specs.Int.{w32}
use Rattle.std.proofs.Common.{SFits}
use Rattle.integers.specs.Clip.{clip3}
use Rattle.integers.specs.Shift.{pow2, shift_right}
use Rattle.integers.specs.Within.{Within}
use Rattle.h265.specs.Range.{coeff_min, coeff_max}
use Rattle.parameters.specs.declared.DequantParams.{DequantParams}
use Rattle.scaling_values.specs.declared.FlatLevel.{FlatLevel}
use Rattle.scaling_values.specs.declared.LongParams.{LongParams}
use Rattle.scaling_values.specs.declared.Parts.{Parts}
use Rattle.scaling_values.specs.Level.{listed_result}
use Rattle.scaling_values.specs.Listed.{scale_by, zeros_by, odd_by, Listable}

unfoldable pub long_product : LongParams → ℕ → ℤ → ℤ
long_product k m level = clip3 k.least k.most level *ℤ (pos m *ℤ k.base) +ℤ k.add

unfoldable pub long_level : LongParams → ℕ → ℤ → ℤ
long_level k m level =
    cond (lt_z (shift_right (long_product k m level) 7) k.low) k.least
    (cond (lt_z k.top (shift_right (long_product k m level) 7)) k.most (pow2 k.up *ℤ shift_right (long_product k m level) k.down))

unfoldable pub long_limited : LongParams → ℕ → ℤ → Bool
long_limited k m level =
    (lt_z level k.least || lt_z k.most level)
    || (lt_z (shift_right (long_product k m level) 7) k.low || lt_z k.top (shift_right (long_product k m level) 7))

unfoldable pub long_at : LongParams → List ℕ → List ℤ → ℕ → ℤ
long_at k entries levels i = long_level k (get_or entries i 0) (get_or levels i (pos 0))

unfoldable pub long_limited_at : LongParams → List ℕ → List ℤ → ℕ → Bool
long_limited_at k entries levels i = long_limited k (get_or entries i 0) (get_or levels i (pos 0))

unfoldable pub rest_of : ℤ → ℤ
rest_of z = z -ℤ shift_right z 7 *ℤ pos 128

pub record PartsOf (z : ℤ) (r : Parts) : Type 0 where
  pub over : r.over ≡ shift_right z 7
  pub rest : r.rest ≡ rest_of z
  pub fits : SFits w32 r.over

pub record Near (z : ℤ) : Type 0 where
  pub low : negsuc 4194303 ≤ℤ z
  pub high : z ≤ℤ pos 4194303

abbrev pub long_by : ℤ → ℤ → ℕ → ℕ → ℕ → ℕ → LongParams
long_by base add down up end most =
    record {
      base = base;
      add = add;
      down = down;
      up = up;
      low = neg_ℤ (pos end);
      top = pos (end - 1);
      least = neg_ℤ (pos (most + 1));
      most = pos most;
    }

pub record Longable (p : DequantParams) : Type 0 where
  pub range : ℕ
  pub factor : shift_right p.factor 4 ≡ pos (scale_by p)
  pub size : scale_by p ≤ 4718592
  pub odd : odd_by p < 64
  pub whole : odd_by p * 2 ^ zeros_by p ≡ scale_by p
  pub power : zeros_by p + 7 ≤ p.shift + range
  pub small : zeros_by p < 32
  pub add : p.add ≡ pow2 (p.shift - 1)
  pub low : 5 ≤ p.shift
  pub high : p.shift ≤ 20
  pub wide : 15 ≤ range
  pub narrow : range ≤ 22
  pub together : range + p.shift ≤ 31
  pub least : p.clip_min ≡ coeff_min range
  pub most : p.clip_max ≡ coeff_max range

pub record Listed (p : DequantParams) : Type 0 where
  pub short : p.clip_max ≡ pos 32767 → Listable p
  pub long : Longable p

pub record Long (k : LongParams) : Type 0 where
  pub base : Within 63 k.base
  pub add : Within 32768 k.add
  pub down : k.down < 32
  pub up : k.up < 32
  pub ordered : k.least ≤ℤ k.most
  pub least : Near k.least
  pub most : Near k.most
  pub low : negsuc 16777215 ≤ℤ k.low
  pub lowest : k.low ≤ℤ pos 0
  pub top : k.top ≤ℤ pos 16777215
  pub topmost : pos 0 ≤ℤ k.top
  pub under : (z : ℤ) → lt_z (shift_right z 7) k.low ≡ lt_z (pow2 k.up *ℤ shift_right z k.down) k.least
  pub over : (z : ℤ) → lt_z k.top (shift_right z 7) ≡ lt_z k.most (pow2 k.up *ℤ shift_right z k.down)

pub record LongFor (p : DequantParams) (k : LongParams) : Type 0 where
  pub long : Long k
  pub least : p.clip_min ≡ k.least
  pub most : p.clip_max ≡ k.most
  pub result : (m : ℕ) (level : ℤ) → listed_result p m level ≡ pow2 k.up *ℤ shift_right (long_product k m level) k.down

pub record LongScaled (k : LongParams) (m : ℕ) (level : ℤ) (r : FlatLevel) : Type 0 where
  pub value : r.value ≡ long_level k m level
  pub limited : r.limited ≡ cond (long_limited k m level) 1 0
