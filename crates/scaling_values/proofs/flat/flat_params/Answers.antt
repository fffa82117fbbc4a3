-- `scaling_values::flat::flat_params` meets its contract: every number fits its type, and the two levels are those that the divisions answer.
use mathlib.Core.Path.{◌≡◌, refl, sym, ap, subst, ◌∙◌}
use Prim.Native.Nat.{ℕ, ◌+◌, ◌-◌, ◌^◌, ◌≤◌}
use native.Mathlib.Omega.{arith}
use borrow.Author.Rules.{sfits_of}
use lib.IntN.{ℤ, pos, neg_ℤ, nat_abs, ◌-ℤ◌}
use lib.Pow.{pow_mono, pow-lt}
use mir.Facts.{to_z_pos}
use mir.Syntax.{w32, w64}
use mir.Val.{to_z, of_z}
use Rattle.integers.specs.Shift.{pow2, shift_right}
use Rattle.integers.proofs.LinearLaws.{parts_add, parts_neg, parts_ext}
use Rattle.integers.proofs.MachineLaws.{round_trip}
use Rattle.integers.proofs.BoundLaws.{within_fits, within_pos, within_eq, within_neg}
use Rattle.scaling_values.specs.Level.{listed_level}
use Rattle.scaling_values.proofs.LevelLaws.{manageable_wide, listed_level_fits, manageable_ends}
use Rattle.scaling_values.proofs.FlatLaws.{base_eq, add_eq, end_below}
use Rattle.scaling_values.proofs.ThresholdLaws.{coeff_max_pos}
use Rattle.scaling_values.specs.Flat.{Divided, TopOf, LowOf}
use Rattle.scaling_values.proofs.flat.flat_params.Goals as goal
use Rattle.scaling_values.proofs.flat.flat_params.Goals.{After-low_level-least, After-scaled_listed-over, After-scaled_listed-under, After-shift_right-add, After-shift_right-base, After-struct_told-3-1, After-top_level-largest, Start}

moved : {x x' y y' z z' : ℤ} (Q : ℕ → ℕ → ℕ → Type 0) → x ≡ x' → y ≡ y' → z ≡ z' → Q (nat_abs x) (nat_abs y) (nat_abs z) → Q (nat_abs x') (nat_abs y') (nat_abs z')
moved {x} {x'} {y} {y'} {z} {z'} Q a b c h =
    subst (λ (w : ℤ). Q (nat_abs x') (nat_abs y') (nat_abs w)) c (subst (λ (w : ℤ). Q (nat_abs x') (nat_abs w) (nat_abs z)) b (subst (λ (w : ℤ). Q (nat_abs w) (nat_abs y) (nat_abs z)) a h))

-- the numbers as naturals
scale_small : (c : Start) → c.requires.regular.scale ≤ 4718592
scale_small c = omega (arith, (within_eq (sym c.requires.regular.factor) c.requires.manageable.factor).within)

most_is : (c : Start) → c.args.by.clip_max ≡ pos (2 ^ c.requires.regular.range - 1)
most_is c = c.requires.regular.most ∙ coeff_max_pos c.requires.regular.range

most_small : (c : Start) → 2 ^ c.requires.regular.range - 1 ≤ 4194304
most_small c = omega (arith, (within_eq (sym (most_is c)) c.requires.manageable.most).within)

half_small : (c : Start) → 2 ^ (c.args.by.shift - 5) ≤ 2 ^ 15
half_small c = pow_mono {i = c.args.by.shift - 5} {j = 15} (omega (arith, c.requires.regular.high))

base_is : (c : After-shift_right-base) → c.shift_right-base.result ≡ shift_right c.args.by.factor 4
base_is c = rw (round_trip (manageable_wide (goal.at.After-shift_right-base c).Start.requires.manageable).factor) at c.shift_right-base.ensures

add_is : (c : After-shift_right-add) → c.shift_right-add.result ≡ shift_right c.args.by.add 4
add_is c = rw (round_trip (manageable_wide (goal.at.After-shift_right-add c).Start.requires.manageable).add) at c.shift_right-add.ensures

base_trip : (c : After-shift_right-base) → to_z w64 (of_z w64 c.shift_right-base.result) ≡ pos c.requires.regular.scale
base_trip c =
    let r = c.requires.regular in
    round_trip {w = w64} (sfits_of c.shift_right-base.type_inv) ∙ base_is c ∙ base_eq c.args.by r.scale r.factor r.add r.low

add_trip : (c : After-shift_right-add) → to_z w64 (of_z w64 c.shift_right-add.result) ≡ pow2 (c.args.by.shift - 5)
add_trip c =
    let r = c.requires.regular in
    round_trip {w = w64} (sfits_of c.shift_right-add.type_inv) ∙ add_is c ∙ add_eq c.args.by r.scale r.factor r.add r.low

most_trip : (c : Start) → to_z w64 (of_z w64 c.args.by.clip_max) ≡ pos (2 ^ c.requires.regular.range - 1)
most_trip c = round_trip (manageable_wide c.requires.manageable).ends.most ∙ most_is c

divided : (c : Start) → Divided c.requires.regular.scale (2 ^ (c.args.by.shift - 5)) (c.args.by.shift - 4) (2 ^ c.requires.regular.range - 1)
divided c =
    record {
      positive = c.requires.regular.positive;
      half = pow-lt (omega (arith, c.requires.regular.low));
      small = end_below c.requires.regular;
      shift = omega (arith, c.requires.regular.high);
    }

pub overflow_cast-most : goal.overflow_cast-most
overflow_cast-most c = rw (most_trip (goal.at.overflow_cast-most c).Start) (tt, omega (arith, most_small (goal.at.overflow_cast-most c).Start))

pub overflow_cast-base : goal.overflow_cast-base
overflow_cast-base c = rw (base_trip (goal.at.overflow_cast-base c).After-shift_right-base) (tt, omega (arith, scale_small (goal.at.overflow_cast-base c).Start))

pub overflow_cast-add : goal.overflow_cast-add
overflow_cast-add c = rw (add_trip (goal.at.overflow_cast-add c).After-shift_right-add) (tt, omega (arith, half_small (goal.at.overflow_cast-add c).Start))

pub top_level-largest-requires : goal.top_level-largest-requires
top_level-largest-requires c =
    rw (base_trip (goal.at.top_level-largest-requires c).After-shift_right-base, add_trip (goal.at.top_level-largest-requires c).After-shift_right-add, most_trip (goal.at.top_level-largest-requires c).Start) (divided (goal.at.top_level-largest-requires c).Start)

pub overflow_cast-base-2 : goal.overflow_cast-base-2
overflow_cast-base-2 c = overflow_cast-base (goal.at.overflow_cast-base-2 c).After-struct_told-3-1

pub overflow_cast-add-2 : goal.overflow_cast-add-2
overflow_cast-add-2 c = overflow_cast-add (goal.at.overflow_cast-add-2 c).After-struct_told-3-1

pub low_level-least-requires : goal.low_level-least-requires
low_level-least-requires c = top_level-largest-requires (goal.at.low_level-least-requires c).After-struct_told-3-1

-- the two levels
abbrev add-call : After-top_level-largest → After-shift_right-add
add-call c = (goal.at.After-top_level-largest c).After-shift_right-add

abbrev base-call : After-top_level-largest → After-shift_right-base
base-call c = (goal.at.After-shift_right-add (add-call c)).After-shift_right-base

abbrev start : After-top_level-largest → Start
start c = (goal.at.After-shift_right-base (base-call c)).Start

top_small : (c : After-top_level-largest) → c.top_level-largest.result ≤ 4194304
top_small c =
    let t : TopOf (start c).requires.regular.scale (2 ^ ((start c).args.by.shift - 5)) ((start c).args.by.shift - 4) (2 ^ (start c).requires.regular.range - 1) c.top_level-largest.result = rw (base_trip (base-call c), add_trip (add-call c), most_trip (start c)) at c.top_level-largest.ensures in
    omega (arith, t.inside, most_small (start c))

low_small : (c : After-low_level-least) → c.low_level-least.result ≤ 4194305
low_small c =
    let t : LowOf (start (goal.at.After-low_level-least c).After-top_level-largest).requires.regular.scale (2 ^ ((start (goal.at.After-low_level-least c).After-top_level-largest).args.by.shift - 5)) ((start (goal.at.After-low_level-least c).After-top_level-largest).args.by.shift - 4) (2 ^ (start (goal.at.After-low_level-least c).After-top_level-largest).requires.regular.range - 1) c.low_level-least.result = rw (base_trip (base-call (goal.at.After-low_level-least c).After-top_level-largest), add_trip (add-call (goal.at.After-low_level-least c).After-top_level-largest), most_trip (start (goal.at.After-low_level-least c).After-top_level-largest)) at c.low_level-least.ensures in
    omega (arith, t.inside, most_small (start (goal.at.After-low_level-least c).After-top_level-largest))

top_trip : (c : After-top_level-largest) → to_z w32 c.top_level-largest.result ≡ pos c.top_level-largest.result
top_trip c = to_z_pos w32 (omega (arith, top_small c))

low_trip : (c : After-low_level-least) → to_z w32 c.low_level-least.result ≡ pos c.low_level-least.result
low_trip c = to_z_pos w32 (omega (arith, low_small c))

negated : (t : ℕ) → pos 0 -ℤ pos t ≡ neg_ℤ (pos t)
negated t = parts_ext (pos 0 -ℤ pos t) (neg_ℤ (pos t)) (omega (arith, parts_add (pos 0) (neg_ℤ (pos t)), parts_neg (pos t)))

one_less : (t : ℕ) → neg_ℤ (pos t) -ℤ pos 1 ≡ neg_ℤ (pos (t + 1))
one_less t = parts_ext (neg_ℤ (pos t) -ℤ pos 1) (neg_ℤ (pos (t + 1))) (omega (arith, parts_add (neg_ℤ (pos t)) (neg_ℤ (pos 1)), parts_neg (pos t), parts_neg (pos (t + 1))))

pub overflow_sub-low : goal.overflow_sub-low
overflow_sub-low c = rw (low_trip c, negated c.low_level-least.result) (within_fits {b = 4194305} tt (within_neg (within_pos (low_small c))))

pub overflow_sub-low-2 : goal.overflow_sub-low-2
overflow_sub-low-2 c =
    rw (round_trip (overflow_sub-low c), low_trip c, negated c.low_level-least.result, one_less c.low_level-least.result)
    (within_fits {b = 4194306} tt (within_neg (within_pos {k = c.low_level-least.result + 1} (omega (arith, low_small c)))))

pub overflow_add-top : goal.overflow_add-top
overflow_add-top c = rw (top_trip (goal.at.overflow_add-top c).After-top_level-largest) (within_fits {b = 4194305} tt (within_pos {k = c.top_level-largest.result + 1} (omega (arith, top_small (goal.at.overflow_add-top c).After-top_level-largest))))

pub overflow_cast-result : goal.overflow_cast-result
overflow_cast-result c = rw (base_trip (base-call (goal.at.overflow_cast-result c).After-top_level-largest)) (within_fits {b = 4718592} tt (within_pos (scale_small (start (goal.at.overflow_cast-result c).After-top_level-largest))))

pub overflow_cast-result-2 : goal.overflow_cast-result-2
overflow_cast-result-2 c = rw (add_trip (add-call (goal.at.overflow_cast-result-2 c).After-top_level-largest)) (within_fits {b = 2 ^ 15} tt (within_pos (half_small (start (goal.at.overflow_cast-result-2 c).After-top_level-largest))))

-- what holds of the numbers as they were passed holds of the block's
numbers_of : (c : After-top_level-largest) (Q : ℕ → ℕ → ℕ → Type 0)
    → Q (nat_abs (to_z w64 (of_z w64 (base-call c).shift_right-base.result))) (nat_abs (to_z w64 (of_z w64 (add-call c).shift_right-add.result))) (nat_abs (to_z w64 (of_z w64 (start c).args.by.clip_max)))
    → Q (nat_abs (shift_right (start c).args.by.factor 4)) (nat_abs (shift_right (start c).args.by.add 4)) (nat_abs (start c).args.by.clip_max)
numbers_of c Q h =
    moved Q (round_trip {w = w64} (sfits_of (base-call c).shift_right-base.type_inv) ∙ base_is (base-call c)) (round_trip {w = w64} (sfits_of (add-call c).shift_right-add.type_inv) ∙ add_is (add-call c)) (round_trip (manageable_wide (start c).requires.manageable).ends.most) h

-- the coefficients past them
under_is : (c : After-scaled_listed-under) → c.scaled_listed-under.result.value ≡ listed_level (start (goal.at.After-scaled_listed-under c).After-top_level-largest).args.by 16 (neg_ℤ (pos (c.low_level-least.result + 1)))
under_is c =
    rw (round_trip (overflow_sub-low-2 (goal.at.After-scaled_listed-under c).After-low_level-least), round_trip (overflow_sub-low (goal.at.After-scaled_listed-under c).After-low_level-least), low_trip (goal.at.After-scaled_listed-under c).After-low_level-least, negated c.low_level-least.result, one_less c.low_level-least.result) at c.scaled_listed-under.ensures.value

over_is : (c : After-scaled_listed-over) → c.scaled_listed-over.result.value ≡ listed_level (start (goal.at.After-scaled_listed-over c).After-top_level-largest).args.by 16 (pos (c.top_level-largest.result + 1))
over_is c = rw (round_trip (overflow_add-top (goal.at.After-scaled_listed-over c).After-scaled_listed-under), top_trip (goal.at.After-scaled_listed-over c).After-top_level-largest) at c.scaled_listed-over.ensures.value

listed_trip : (c : Start) (level v : ℤ) → v ≡ listed_level c.args.by 16 level → to_z w32 (of_z w32 v) ≡ listed_level c.args.by 16 level
listed_trip c level v e = ap (λ (z : ℤ). to_z w32 (of_z w32 z)) e ∙ round_trip (listed_level_fits 16 level (manageable_ends c.requires.manageable))

pub returns : goal.returns
returns c =
    let s = start (goal.at.returns c).After-top_level-largest in
    record {
      largest = c.top_level-largest.result;
      least = c.low_level-least.result;
      top_of = numbers_of (goal.at.returns c).After-top_level-largest (λ f a m. TopOf f a (s.args.by.shift - 4) m c.top_level-largest.result) c.top_level-largest.ensures;
      low_of = numbers_of (goal.at.returns c).After-top_level-largest (λ f a m. LowOf f a (s.args.by.shift - 4) m c.low_level-least.result) c.low_level-least.ensures;
      low = round_trip (overflow_sub-low (goal.at.returns c).After-low_level-least) ∙ rw (low_trip (goal.at.returns c).After-low_level-least) (negated c.low_level-least.result);
      top = top_trip (goal.at.returns c).After-top_level-largest;
      base = round_trip (overflow_cast-result (goal.at.returns c).After-scaled_listed-over) ∙ round_trip {w = w64} (sfits_of (base-call (goal.at.returns c).After-top_level-largest).shift_right-base.type_inv) ∙ base_is (base-call (goal.at.returns c).After-top_level-largest);
      add = round_trip (overflow_cast-result-2 (goal.at.returns c).After-scaled_listed-over) ∙ round_trip {w = w64} (sfits_of (add-call (goal.at.returns c).After-top_level-largest).shift_right-add.type_inv) ∙ add_is (add-call (goal.at.returns c).After-top_level-largest);
      shift = refl;
      under = listed_trip s (neg_ℤ (pos (c.low_level-least.result + 1))) c.scaled_listed-under.result.value (under_is (goal.at.returns c).After-scaled_listed-under);
      over = listed_trip s (pos (c.top_level-largest.result + 1)) c.scaled_listed-over.result.value (over_is (goal.at.returns c).After-scaled_listed-over);
    }
