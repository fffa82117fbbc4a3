-- Levels with a list where R = 15, in 32 bits; proofs/ListedLaws.antt takes them to `listed_level` and `listed_limited`.
--   compact_result k m level   (level limited × (m × base) + rounding) >> down: what is shifted up in the end
--   compact_level k m level    the coefficient: that, shifted up, between `low` and `top`; the range's ends past them
--   compact_limited k m level  the level lies outside the range, or the result past `low` and `top`
--   compact_at, compact_limited_at   the same at an index of a block of levels, by entries that stand at the index itself
--   scale_by, zeros_by, odd_by   what m is multiplied by, the power of two in it, and what is left of it
--   lowered_by, raised_by       the numbers of a block where the shift is the larger power of two, and where it is not
--   Listable p                what holds of the numbers of every block where R = 15
--   Compact k                 32 bits hold every product and sum, and `low` and `top` are the range's ends without what is shifted up
--   ListedFor p k             k has the numbers of p
--   CompactScaled k m level r what the function of one level hands back
use Rattle.std.specs.Prelude.{◌≡◌, Bool, ◌||◌, cond, List, ℕ, ◌+◌, ◌-◌, ◌*◌, ◌/◌, ◌^◌, ◌≤◌, ◌<◌, ℤ, pos, negsuc, nat_abs, ◌+ℤ◌, ◌*ℤ◌, get_or}
use Rattle.std.specs.Int.Count.{count_trailing_zeros}
use Rattle.std.specs.Int.Signed.{lt_z}
use Rattle.integers.specs.Clip.{clip3}
use Rattle.integers.specs.Shift.{pow2, shift_right}
use Rattle.integers.specs.Within.{Within}
use Rattle.parameters.specs.declared.DequantParams.{DequantParams}
use Rattle.scaling_values.specs.declared.FlatLevel.{FlatLevel}
use Rattle.scaling_values.specs.declared.ListedParams.{ListedParams}
use Rattle.scaling_values.specs.Level.{listed_result}

unfoldable pub compact_result : ListedParams → ℕ → ℤ → ℤ
compact_result k m level = shift_right (clip3 (negsuc 32767) (pos 32767) level *ℤ (pos m *ℤ k.base) +ℤ k.add) k.down

unfoldable pub compact_level : ListedParams → ℕ → ℤ → ℤ
compact_level k m level =
    cond (lt_z (compact_result k m level) k.low) (negsuc 32767)
    (cond (lt_z k.top (compact_result k m level)) (pos 32767) (pow2 k.up *ℤ compact_result k m level))

unfoldable pub compact_limited : ListedParams → ℕ → ℤ → Bool
compact_limited k m level =
    (lt_z level (negsuc 32767) || lt_z (pos 32767) level) || (lt_z (compact_result k m level) k.low || lt_z k.top (compact_result k m level))

unfoldable pub compact_at : ListedParams → List ℕ → List ℤ → ℕ → ℤ
compact_at k entries levels i = compact_level k (get_or entries i 0) (get_or levels i (pos 0))

unfoldable pub compact_limited_at : ListedParams → List ℕ → List ℤ → ℕ → Bool
compact_limited_at k entries levels i = compact_limited k (get_or entries i 0) (get_or levels i (pos 0))

unfoldable pub scale_by : DequantParams → ℕ
scale_by p = nat_abs (shift_right p.factor 4)

abbrev pub zeros_by : DequantParams → ℕ
zeros_by p = count_trailing_zeros 32 (scale_by p)

abbrev pub odd_by : DequantParams → ℕ
odd_by p = scale_by p / 2 ^ zeros_by p

abbrev pub lowered_by : ℤ → ℕ → ListedParams
lowered_by base down = record { base = base; add = pow2 (down - 1); down = down; up = 0; low = negsuc 32767; top = pos 32767 }

abbrev pub raised_by : ℤ → ℕ → ListedParams
raised_by base up =
    record { base = base; add = pos 0; down = 0; up = up; low = shift_right (negsuc 32767) up; top = shift_right (pos 32767) up }

pub record Listable (p : DequantParams) : Type 0 where
  pub factor : shift_right p.factor 4 ≡ pos (scale_by p)
  pub size : scale_by p ≤ 4718592
  pub odd : odd_by p < 64
  pub whole : odd_by p * 2 ^ zeros_by p ≡ scale_by p
  pub power : zeros_by p < p.shift + 10
  pub small : zeros_by p < 32
  pub add : p.add ≡ pow2 (p.shift - 1)
  pub low : 5 ≤ p.shift
  pub high : p.shift ≤ 16
  pub least : p.clip_min ≡ negsuc 32767
  pub most : p.clip_max ≡ pos 32767

pub record Compact (k : ListedParams) : Type 0 where
  pub base : Within 63 k.base
  pub add : Within 32768 k.add
  pub down : k.down < 32
  pub up : k.up < 32
  pub low : pow2 k.up *ℤ k.low ≡ negsuc 32767
  pub top : k.top ≡ shift_right (pos 32767) k.up
  pub lowest : Within 32768 k.low

pub record ListedFor (p : DequantParams) (k : ListedParams) : Type 0 where
  pub compact : Compact k
  pub least : p.clip_min ≡ negsuc 32767
  pub most : p.clip_max ≡ pos 32767
  pub result : (m : ℕ) (level : ℤ) → listed_result p m level ≡ pow2 k.up *ℤ compact_result k m level

pub record CompactScaled (k : ListedParams) (m : ℕ) (level : ℤ) (r : FlatLevel) : Type 0 where
  pub value : r.value ≡ compact_level k m level
  pub limited : r.limited ≡ cond (compact_limited k m level) 1 0
