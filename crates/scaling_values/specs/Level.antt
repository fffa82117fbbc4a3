-- One level by the machine's numbers, as the functions below the refusals have them; proofs/LevelLaws.antt takes them to clause 8.6.
--   level_by p f level       (level × f + rounding) >> shift, limited before and after
--   flat_level p level       the same without a list: the factor holds m = 16
--   listed_level p m level   the same with the m of a list
--   outside_by p z           z lies outside the range
--   result_by, listed_result  what level_by and listed_level limit in the end
--   listed_limited p m level the level lies outside the range, or what is limited in the end does
--   ScaledBy, ListedBy      what the functions of one level hand back
--   Manageable p            what these rely on: 64 bits hold every product and sum
--   Ends w p                the ends of the range fit a signed type of width w
use Rattle.std.specs.Prelude.{◌≡◌, Bool, ◌||◌, ℕ, ◌<◌, ℤ, pos, ◌+ℤ◌, ◌*ℤ◌, ◌≤ℤ◌}
use Rattle.std.specs.Int.Signed.{lt_z}
use Rattle.std.specs.Int.{Width}
use Rattle.std.proofs.Common.{SFits}
use Rattle.integers.specs.Clip.{clip3}
use Rattle.integers.specs.Shift.{shift_right}
use Rattle.integers.specs.Within.{Within}
use Rattle.parameters.specs.declared.DequantParams.{DequantParams}
use Rattle.scaling_values.specs.declared.ScaledLevel.{ScaledLevel}

unfoldable pub level_by : DequantParams → ℤ → ℤ → ℤ
level_by p f level =
    clip3 p.clip_min p.clip_max
    (shift_right (clip3 p.clip_min p.clip_max level *ℤ f +ℤ p.add) p.shift)

unfoldable pub flat_level : DequantParams → ℤ → ℤ
flat_level p level = level_by p p.factor level

unfoldable pub listed_level : DequantParams → ℕ → ℤ → ℤ
listed_level p m level = level_by p (shift_right p.factor 4 *ℤ pos m) level

unfoldable pub outside_by : DequantParams → ℤ → Bool
outside_by p z = lt_z z p.clip_min || lt_z p.clip_max z

unfoldable pub result_by : DequantParams → ℤ → ℤ → ℤ
result_by p f level = shift_right (clip3 p.clip_min p.clip_max level *ℤ f +ℤ p.add) p.shift

unfoldable pub listed_result : DequantParams → ℕ → ℤ → ℤ
listed_result p m level = result_by p (shift_right p.factor 4 *ℤ pos m) level

unfoldable pub listed_limited : DequantParams → ℕ → ℤ → Bool
listed_limited p m level = outside_by p level || outside_by p (listed_result p m level)

pub record ScaledBy (p : DequantParams) (f level : ℤ) (r : ScaledLevel) : Type 0 where
  pub value : r.value ≡ level_by p f level
  pub before : r.level_limited ≡ outside_by p level
  pub after : r.result_limited ≡ outside_by p (result_by p f level)

pub record ListedBy (p : DequantParams) (m : ℕ) (level : ℤ) (r : ScaledLevel) : Type 0 where
  pub value : r.value ≡ listed_level p m level
  pub before : r.level_limited ≡ outside_by p level
  pub after : r.result_limited ≡ outside_by p (listed_result p m level)

pub record Manageable (p : DequantParams) : Type 0 where
  pub factor : Within 75497472 p.factor
  pub add : Within 32768 p.add
  pub shift : p.shift < 64
  pub least : Within 4194304 p.clip_min
  pub most : Within 4194304 p.clip_max
  pub ordered : p.clip_min ≤ℤ p.clip_max

pub record Ends (w : Width) (p : DequantParams) : Type 0 where
  pub least : SFits w p.clip_min
  pub most : SFits w p.clip_max
