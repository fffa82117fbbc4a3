-- Levels without a list in 32 bits, at every range; proofs/FlatLaws.antt takes them to `flat_level` and to what was limited.
--   short_level k level    the coefficient: (level × base + rounding) >> shift between `low` and `top`; `under` and `over` past them
--   short_limited k level  the level lies past them
--   short_at               the coefficient at an index of a block of levels
--   short_limited_at        the level there lies past them
--   FlatScaled k level r  what the function of one level hands back
--   Regular p             what holds of the numbers of every block
--   Divided f a s m       what the two divisions rely on: factor f, rounding a, shift s, largest coefficient m
--   TopOf, LowOf          t is the largest level that nothing limits, l the size of the least one
--   Exact                 both
--   FlatFor p k           k has the numbers of p
--   Short k               32 bits hold every product and sum
--   ShortFits w k         a signed type of width w holds every coefficient
use Rattle.std.specs.Prelude.{◌≡◌, Bool, ◌||◌, cond, List, ℕ, ◌+◌, ◌-◌, ◌*◌, ◌^◌, ◌≤◌, ◌<◌, ℤ, pos, neg_ℤ, nat_abs, ◌+ℤ◌, ◌*ℤ◌, get_or}
use Rattle.std.specs.Int.Signed.{lt_z}
use Rattle.std.specs.Int.{Width, w32}
use Rattle.std.proofs.Common.{SFits}
use Rattle.integers.specs.Shift.{pow2, shift_right}
use Rattle.integers.specs.Within.{Within}
use Rattle.h265.specs.Range.{coeff_min, coeff_max}
use Rattle.parameters.specs.declared.DequantParams.{DequantParams}
use Rattle.scaling_values.specs.declared.FlatLevel.{FlatLevel}
use Rattle.scaling_values.specs.declared.FlatParams.{FlatParams}
use Rattle.scaling_values.specs.Level.{listed_level}

unfoldable pub short_level : FlatParams → ℤ → ℤ
short_level k level =
    cond (lt_z level k.low) k.under
    (cond (lt_z k.top level) k.over (shift_right (level *ℤ k.base +ℤ k.add) k.shift))

unfoldable pub short_limited : FlatParams → ℤ → Bool
short_limited k level = lt_z level k.low || lt_z k.top level

unfoldable pub short_at : FlatParams → List ℤ → ℕ → ℤ
short_at k levels i = short_level k (get_or levels i (pos 0))

unfoldable pub short_limited_at : FlatParams → List ℤ → ℕ → Bool
short_limited_at k levels i = short_limited k (get_or levels i (pos 0))

pub record FlatScaled (k : FlatParams) (level : ℤ) (r : FlatLevel) : Type 0 where
  pub value : r.value ≡ short_level k level
  pub limited : r.limited ≡ cond (short_limited k level) 1 0
  pub fits : SFits w32 r.value

pub record Regular (p : DequantParams) : Type 0 where
  pub scale : ℕ
  pub range : ℕ
  pub factor : p.factor ≡ pos (16 * scale)
  pub positive : 1 ≤ scale
  pub add : p.add ≡ pow2 (p.shift - 1)
  pub low : 5 ≤ p.shift
  pub high : p.shift ≤ 20
  pub wide : 15 ≤ range
  pub together : range + p.shift ≤ 31
  pub least : p.clip_min ≡ coeff_min range
  pub most : p.clip_max ≡ coeff_max range

pub record Divided (f a s m : ℕ) : Type 0 where
  pub positive : 1 ≤ f
  pub half : a < 2 ^ s
  pub small : (m + 1) * 2 ^ s ≤ 134217728
  pub shift : s < 32

pub record TopOf (f a s m t : ℕ) : Type 0 where
  pub inside : t ≤ m
  pub fits : t * f + a < (m + 1) * 2 ^ s
  pub next : t < m → (m + 1) * 2 ^ s ≤ (t + 1) * f + a

pub record LowOf (f a s m l : ℕ) : Type 0 where
  pub inside : l ≤ m + 1
  pub fits : l * f ≤ (m + 1) * 2 ^ s + a
  pub next : l < m + 1 → (m + 1) * 2 ^ s + a < (l + 1) * f

pub record Exact (f a s m t l : ℕ) : Type 0 where
  pub top : TopOf f a s m t
  pub low : LowOf f a s m l

pub record FlatFor (p : DequantParams) (k : FlatParams) : Type 0 where
  pub largest : ℕ
  pub least : ℕ
  pub top_of : TopOf (nat_abs (shift_right p.factor 4)) (nat_abs (shift_right p.add 4)) (p.shift - 4) (nat_abs p.clip_max) largest
  pub low_of : LowOf (nat_abs (shift_right p.factor 4)) (nat_abs (shift_right p.add 4)) (p.shift - 4) (nat_abs p.clip_max) least
  pub low : k.low ≡ neg_ℤ (pos least)
  pub top : k.top ≡ pos largest
  pub base : k.base ≡ shift_right p.factor 4
  pub add : k.add ≡ shift_right p.add 4
  pub shift : k.shift ≡ p.shift - 4
  pub under : k.under ≡ listed_level p 16 (neg_ℤ (pos (least + 1)))
  pub over : k.over ≡ listed_level p 16 (pos (largest + 1))

pub record Short (k : FlatParams) : Type 0 where
  pub size : ℕ
  pub scale : ℕ
  pub low : Within size k.low
  pub top : Within size k.top
  pub base : Within scale k.base
  pub levels : size ≤ 16777216
  pub factors : scale ≤ 8388608
  pub products : size * scale ≤ 1073741824
  pub add : Within 32768 k.add
  pub shift : k.shift < 32
  pub under : Within 4194304 k.under
  pub over : Within 4194304 k.over

pub record ShortFits (w : Width) (k : FlatParams) : Type 0 where
  pub at : (level : ℤ) → SFits w (short_level k level)
