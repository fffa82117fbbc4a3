-- One sample of the residual as a function of one coefficient's value, and the search for the values that give a target.
-- A probe holds what stays as it is whatever the value: the range, the shift of stage two, the entries by which the coefficient and the
-- value of stage one are multiplied, what else both sums have, and the target.
--   stage_one_by p v        the value of stage one, limited
--   sample_by p v          the sample
--   before f x y          x comes before y as the coefficient's value grows: x < y, or y < x where samples fall
--   falls p               the sample falls as the value grows: the two entries differ in sign
--   past p strict o       the sample at place o of the range lies at the target or past it; strict: past it
--   Bounded p             what the functions rely on
--   Split q from to i     of places from .. to - 1 those from i on pass the test q, and no other
--   Narrowed p from to s  of places from .. to - 1 those in the span s give the target, and no other
use Rattle.std.specs.Prelude.{◌≡◌, Bool, true, false, not, cond, ℕ, ◌≤◌, ◌<◌, ℤ, pos, ◌+ℤ◌, ◌*ℤ◌}
use Rattle.std.specs.Int.Signed.{lt_z}
use Rattle.integers.specs.Shift.{round_shift}
use Rattle.integers.specs.Within.{Within}
use Rattle.h265.specs.Range.{clip_coeff}
use Rattle.edit_values.specs.declared.Probe.{Probe}
use Rattle.edit_values.specs.declared.interval.Span.{Span}
use Rattle.edit_values.specs.Values.{value_at}

unfoldable pub stage_one_by : Probe → ℤ → ℤ
stage_one_by p v = clip_coeff p.range (round_shift (p.rest_one +ℤ p.entry_one *ℤ v) 7)

unfoldable pub sample_by : Probe → ℤ → ℤ
sample_by p v = round_shift (p.rest_two +ℤ p.entry_two *ℤ stage_one_by p v) p.shift

unfoldable pub before : Bool → ℤ → ℤ → Bool
before f x y = cond f (lt_z y x) (lt_z x y)

unfoldable pub falls : Probe → Bool
falls p = cond (lt_z p.entry_one (pos 0)) (not (lt_z p.entry_two (pos 0))) (lt_z p.entry_two (pos 0))

unfoldable pub past : Probe → Bool → ℕ → Bool
past p strict o =
    let x : ℤ = sample_by p (value_at p.range o) in
    cond strict (before (falls p) p.target x) (not (before (falls p) x p.target))

pub record Bounded (p : Probe) : Type 0 where
  pub range : p.range ≤ 22
  pub shift : (1 ≤ p.shift) × (p.shift ≤ 12)
  pub entry-one : Within 90 p.entry_one
  pub entry_two : Within 90 p.entry_two
  pub rest_one : Within 17179869184 p.rest_one
  pub rest_two : Within 17179869184 p.rest_two
  pub target : Within 2147483648 p.target

pub record Split (q : ℕ → Bool) (from to i : ℕ) : Type 0 where
  pub least : from ≤ i
  pub most : i ≤ to
  pub none : (o : ℕ) → from ≤ o → o < i → q o ≡ false
  pub all : (o : ℕ) → i ≤ o → o < to → q o ≡ true

pub record Narrowed (p : Probe) (from to : ℕ) (s : Span) : Type 0 where
  pub least : from ≤ s.from
  pub ordered : s.from ≤ s.to
  pub most : s.to ≤ to
  pub gives : (o : ℕ) → s.from ≤ o → o < s.to → sample_by p (value_at p.range o) ≡ p.target
  pub only : (o : ℕ) → from ≤ o → o < to → sample_by p (value_at p.range o) ≡ p.target → (s.from ≤ o) × (o < s.to)
