-- With one coefficient's value growing and all else as it is, a sample never falls, or never rises; so the places past a target are the last ones.
--   not_both                        a test is not both
--   times_rising, times_falling     a factor of 0 or more keeps the order, a factor below 0 turns it
--   upto_trans, before_upto         `before` as an order in one of two directions
--   stage_one_rising, -falling       stage one, by the sign of its entry
--   sample_ordered                  both stages, by the signs of both entries
--   places_ordered                  values are in the order of their places
--   past_mono, past-none            once past, always past
--   hit_reached, hit_passed, past_hit   at the target: reached and not passed
--   split_narrowed                  the places that are reached and not passed are those that give the target
use mathlib.Core.Path.{◌≡◌, refl, sym, ap, subst, ◌∙◌}
use mathlib.Core.Bool.{Bool, true, false, not, cond}
use Prim.Native.Nat.{ℕ, suc, ◌≤◌, ◌<◌}
use native.Mathlib.Nat.{mul-le-mul_left}
use native.Mathlib.Omega.{arith}
use borrow.Author.Tests.{not-true, ltb-true, ltb-false}
use lib.Dec.{T, ltb}
use lib.IntN.{ℤ, pos, negsuc, ◌+ℤ◌, ◌*ℤ◌}
use lib.Signed.{lt_z, ◌≤ℤ◌, ≤ℤ_refl, <ℤ-≤ℤ_trans}
use Rattle.integers.specs.Shift.{round_shift}
use Rattle.integers.proofs.LinearLaws.{parts_mul, le_in, le_out, lt_in, lt_out}
use Rattle.integers.proofs.OrderLaws.{≤ℤ_trans, ≤ℤ_antisym, +ℤ_mono, *ℤ_mono}
use Rattle.integers.proofs.MachineLaws.{lt_z_true, lt_z_false, lt_z_of_lt, lt_z_of_le}
use Rattle.integers.proofs.ShiftLaws.{round_shift_mono}
use Rattle.integers.proofs.ClipLaws.{clip3_mono}
use Rattle.h265.specs.Range.{coeff_min, clip_coeff}
use Rattle.h265.proofs.RangeLaws.{coeff_min-≤-coeff_max}
use Rattle.edit_values.specs.declared.Probe.{Probe}
use Rattle.edit_values.specs.declared.interval.Span.{Span}
use Rattle.edit_values.specs.Values.{value_at}
use Rattle.edit_values.specs.Sample.{stage_one_by, sample_by, before, falls, past, Split, Narrowed}

pub not_both : {t : Bool} → t ≡ false → t ≡ true → ⊥
not_both e d = subst T (sym d ∙ e) tt

-- ---- factors
pub times_rising : (u : ℤ) {x y : ℤ} → lt_z u (pos 0) ≡ false → x ≤ℤ y → (u *ℤ x) ≤ℤ (u *ℤ y)
times_rising (pos k) e h = *ℤ_mono k h
times_rising (negsuc k) e h = absurd (not_both e refl)

pub times_falling : (u : ℤ) {x y : ℤ} → lt_z u (pos 0) ≡ true → x ≤ℤ y → (u *ℤ y) ≤ℤ (u *ℤ x)
times_falling (pos k) e h = absurd (not_both (lt_z_of_le (le_out (pos 0) (pos k) (omega arith))) e)
times_falling (negsuc k) {x} {y} e h =
    le_out (negsuc k *ℤ y) (negsuc k *ℤ x)
    (omega (arith, mul-le-mul_left (suc k) (le_in h), parts_mul (negsuc k) x, parts_mul (negsuc k) y))

-- ---- a direction
-- x does not come after y
abbrev pub Upto : Bool → ℤ → ℤ → Type 0
Upto f x y = before f y x ≡ false

module _ (x y z : ℤ) where
  pub upto_trans : (f : Bool) → Upto f x y → Upto f y z → Upto f x z
  unfolding before
  upto_trans true h k = lt_z_of_le (≤ℤ_trans {x = z} {y = y} {z = x} (lt_z_false k) (lt_z_false h))
  upto_trans false h k = lt_z_of_le (≤ℤ_trans {x = x} {y = y} {z = z} (lt_z_false h) (lt_z_false k))

  pub before_upto : (f : Bool) → before f x y ≡ true → Upto f y z → before f x z ≡ true
  unfolding before
  before_upto true h k = lt_z_of_lt (lt_out z x (omega (arith, lt_in (lt_z_true {x = y} {y = x} h), le_in (lt_z_false {x = y} {y = z} k))))
  before_upto false h k = lt_z_of_lt (<ℤ-≤ℤ_trans {a = x} {b = y} {c = z} (lt_z_true h) (lt_z_false k))

pub upto_antisym : (f : Bool) (x y : ℤ) → Upto f x y → Upto f y x → x ≡ y
unfolding before
upto_antisym true x y h k = ≤ℤ_antisym (lt_z_false {x = y} {y = x} k) (lt_z_false {x = x} {y = y} h)
upto_antisym false x y h k = ≤ℤ_antisym (lt_z_false {x = y} {y = x} h) (lt_z_false {x = x} {y = y} k)

pub upto_refl : (f : Bool) (x : ℤ) → Upto f x x
unfolding before
upto_refl true x = lt_z_of_le (≤ℤ_refl x)
upto_refl false x = lt_z_of_le (≤ℤ_refl x)

-- ---- the stages
module _ (p : Probe) {u v : ℤ} (h : u ≤ℤ v) where
  pub stage_one_rising : lt_z p.entry_one (pos 0) ≡ false → stage_one_by p u ≤ℤ stage_one_by p v
  unfolding stage_one_by clip_coeff
  stage_one_rising e =
      clip3_mono _ _ (coeff_min-≤-coeff_max p.range) (round_shift_mono 7 (+ℤ_mono (≤ℤ_refl p.rest_one) (times_rising p.entry_one e h)))

  pub stage_one_falling : lt_z p.entry_one (pos 0) ≡ true → stage_one_by p v ≤ℤ stage_one_by p u
  unfolding stage_one_by clip_coeff
  stage_one_falling e =
      clip3_mono _ _ (coeff_min-≤-coeff_max p.range) (round_shift_mono 7 (+ℤ_mono (≤ℤ_refl p.rest_one) (times_falling p.entry_one e h)))

  stage_two_rising : {a b : ℤ} → lt_z p.entry_two (pos 0) ≡ false → a ≤ℤ b
      → round_shift (p.rest_two +ℤ p.entry_two *ℤ a) p.shift ≤ℤ round_shift (p.rest_two +ℤ p.entry_two *ℤ b) p.shift
  stage_two_rising e k = round_shift_mono p.shift (+ℤ_mono (≤ℤ_refl p.rest_two) (times_rising p.entry_two e k))

  stage_two_falling : {a b : ℤ} → lt_z p.entry_two (pos 0) ≡ true → a ≤ℤ b
      → round_shift (p.rest_two +ℤ p.entry_two *ℤ b) p.shift ≤ℤ round_shift (p.rest_two +ℤ p.entry_two *ℤ a) p.shift
  stage_two_falling e k = round_shift_mono p.shift (+ℤ_mono (≤ℤ_refl p.rest_two) (times_falling p.entry_two e k))

  -- two entries of one sign keep the order, two of different signs turn it; an entry of 0 does both
  pub sample_ordered : Upto (falls p) (sample_by p u) (sample_by p v)
  unfolding sample_by before falls
  sample_ordered = by_signs (lt_z p.entry_one (pos 0)) (lt_z p.entry_two (pos 0)) refl refl
    where
      at : ℤ → ℤ
      at z = round_shift (p.rest_two +ℤ p.entry_two *ℤ stage_one_by p z) p.shift

      by_signs : (s t : Bool) → lt_z p.entry_one (pos 0) ≡ s → lt_z p.entry_two (pos 0) ≡ t
          → cond (cond s (not t) t) (lt_z (at u) (at v)) (lt_z (at v) (at u)) ≡ false
      by_signs true true d e = lt_z_of_le (stage_two_falling e (stage_one_falling d))
      by_signs true false d e = lt_z_of_le (stage_two_rising e (stage_one_falling d))
      by_signs false true d e = lt_z_of_le (stage_two_falling e (stage_one_rising d))
      by_signs false false d e = lt_z_of_le (stage_two_rising e (stage_one_rising d))

-- ---- places
pub places_ordered : (r : ℕ) {o q : ℕ} → o ≤ q → value_at r o ≤ℤ value_at r q
unfolding value_at
places_ordered r {o} {q} h = +ℤ_mono (le_out (pos o) (pos q) (omega arith)) (≤ℤ_refl (coeff_min r))

module _ (p : Probe) where
  abbrev x : ℕ → ℤ
  x o = sample_by p (value_at p.range o)

  ordered : {o q : ℕ} → o ≤ q → Upto (falls p) (x o) (x q)
  ordered h = sample_ordered p (places_ordered p.range h)

  pub past_mono : (strict : Bool) {o q : ℕ} → o ≤ q → past p strict o ≡ true → past p strict q ≡ true
  unfolding past
  past_mono true {o} {q} h e = before_upto p.target (x o) (x q) (falls p) e (ordered h)
  past_mono false {o} {q} h e = ap not (upto_trans p.target (x o) (x q) (falls p) (not-true _ e) (ordered h))

  pub past-none : (strict : Bool) {o q : ℕ} → o ≤ q → past p strict q ≡ false → past p strict o ≡ false
  past-none strict {o} {q} h e = by_test (past p strict o) refl
    where
      by_test : (t : Bool) → past p strict o ≡ t → t ≡ false
      by_test true d = absurd (not_both e (past_mono strict h d))
      by_test false d = refl

  pub hit_reached : (o : ℕ) → x o ≡ p.target → past p false o ≡ true
  unfolding past
  hit_reached o e = rw (e, upto_refl (falls p) p.target)

  pub hit_passed : (o : ℕ) → x o ≡ p.target → past p true o ≡ false
  unfolding past
  hit_passed o e = rw e (upto_refl (falls p) p.target)

  pub past_hit : (o : ℕ) → past p false o ≡ true → past p true o ≡ false → x o ≡ p.target
  unfolding past
  past_hit o d e = upto_antisym (falls p) (x o) p.target e (not-true _ d)

  pub split_narrowed : {from to : ℕ} {s : Span} → Split (past p false) from to s.from → Split (past p true) s.from to s.to → Narrowed p from to s
  split_narrowed {from} {to} {s} a b =
      record {
        least = a.least;
        ordered = b.least;
        most = b.most;
        gives = λ o h l. past_hit o (a.all o h (omega (arith, b.most))) (b.none o h l);
        only = λ o h l e. (from_test o h e (ltb o s.from) refl, to_test o h l e);
      }
    where
      from_test : (o : ℕ) → from ≤ o → x o ≡ p.target → (t : Bool) → ltb o s.from ≡ t → s.from ≤ o
      from_test o h e true d = absurd (not_both (a.none o h (ltb-true o s.from d)) (hit_reached o e))
      from_test o h e false d = ltb-false o s.from d

      by_end : (o : ℕ) → o < to → x o ≡ p.target → (t : Bool) → ltb o s.to ≡ t → o < s.to
      by_end o l e true d = ltb-true o s.to d
      by_end o l e false d = absurd (not_both (hit_passed o e) (b.all o (ltb-false o s.to d) l))

      to_test : (o : ℕ) → from ≤ o → o < to → x o ≡ p.target → o < s.to
      to_test o h l e = by_end o l e (ltb o s.to) refl
