-- `scaling_values::long::scaled_long` meets its contract: each arm is a case of the definition, and between the two bounds 32 bits hold the product.
use mathlib.Core.Path.{◌≡◌, ap, ap₂, sym, subst, ◌∙◌}
use mathlib.Core.Bool.{Bool, false, cond}
use Prim.Native.Nat.{◌*◌, ◌%◌, ◌^◌}
use native.Mathlib.Omega.{arith}
use borrow.Author.Rules.{sfits_of}
use lib.IntN.{ℤ, pos, ◌+ℤ◌, ◌*ℤ◌}
use lib.Signed.{shr_z, lt_z, ◌≤ℤ◌}
use mir.Facts.{to_z_pos}
use mir.Syntax.{w32}
use mir.Val.{SFits, to_z, of_z}
use Rattle.integers.specs.Clip.{clip3}
use Rattle.integers.specs.Shift.{pow2, shift_right}
use Rattle.integers.proofs.MachineLaws.{round_trip, lt_z_round_trip, lt_z_false}
use Rattle.integers.proofs.BoundLaws.{within_fits}
use Rattle.scaling_values.specs.Long.{long_product, long_level, rest_of}
use Rattle.integers.proofs.ClipLaws.{clamp_clips}
use Rattle.scaling_values.proofs.ListedLaws.{shl_fits, factor_within}
use Rattle.scaling_values.proofs.LongLaws.{long_numbers, rest_low, rest_high, rest_sum, near_clip, near_within, over_fits, whole_fits, long_fits, long_between, long_below, long_above, long_inside}
use Rattle.scaling_values.proofs.long.scaled_long.Goals as goal
use Rattle.scaling_values.proofs.long.scaled_long.Goals.{After-clamp-near, After-product-made, After-struct_told-3-1, Else-by-made, Else-made-by, Start}

-- the block's numbers fit
least_fits : (s : Start) → SFits w32 s.args.by.least
least_fits s = within_fits tt (near_within s.requires.least)

most_fits : (s : Start) → SFits w32 s.args.by.most
most_fits s = within_fits tt (near_within s.requires.most)

-- ---- the limited level
abbrev start-1 : After-clamp-near → Start
start-1 c = (goal.at.After-clamp-near c).Start

near_is : (c : After-clamp-near) → let a = (start-1 c).args in c.clamp-near.result ≡ clip3 a.by.least a.by.most a.level
near_is c =
    let s = start-1 c in
    rw (round_trip s.ranges.level, round_trip (least_fits s), round_trip (most_fits s)) at c.clamp-near.ensures.value
    ∙ clamp_clips s.args.by.least s.args.by.most s.args.level s.requires.ordered

pub clamp-near-requires : goal.clamp-near-requires
clamp-near-requires c =
    rw (round_trip (least_fits (goal.at.clamp-near-requires c).Start), round_trip (most_fits (goal.at.clamp-near-requires c).Start)) c.requires.ordered

pub overflow_mul-m : goal.overflow_mul-m
overflow_mul-m c =
    let s = start-1 (goal.at.overflow_mul-m c).After-clamp-near in
    rw (to_z_pos w32 {n = s.args.m} (omega arith), round_trip (long_numbers s.requires).base) (within_fits tt (factor_within (omega arith) s.requires.base))

pub product-made-requires : goal.product-made-requires
product-made-requires c =
    let s = start-1 (goal.at.product-made-requires c).After-clamp-near in
    rw (round_trip (sfits_of (goal.at.product-made-requires c).After-clamp-near.clamp-near.type_inv), near_is (goal.at.product-made-requires c).After-clamp-near, round_trip (overflow_mul-m (goal.at.product-made-requires c).After-struct_told-3-1), to_z_pos w32 {n = s.args.m} (omega arith), round_trip (long_numbers s.requires).base, round_trip (long_numbers s.requires).add)
    record { near = near_clip s.requires s.args.level; within = factor_within (omega arith) s.requires.base; within_2 = s.requires.add }

-- ---- its product
abbrev level-of : After-product-made → After-clamp-near
level-of c = (goal.at.After-product-made c).After-clamp-near

abbrev start-2 : After-product-made → Start
start-2 c = start-1 (level-of c)

over_is : (c : After-product-made) → let a = (start-2 c).args in c.product-made.result.over ≡ shift_right (long_product a.by a.m a.level) 7
unfolding long_product
over_is c =
    let l = level-of c in
    let s = start-2 c in
    rw (round_trip (sfits_of l.clamp-near.type_inv), near_is l, round_trip (overflow_mul-m (goal.at.After-product-made c).After-struct_told-3-1), to_z_pos w32 {n = s.args.m} (omega arith), round_trip (long_numbers s.requires).base, round_trip (long_numbers s.requires).add) at c.product-made.ensures.over

rest_is : (c : After-product-made) → let a = (start-2 c).args in c.product-made.result.rest ≡ rest_of (long_product a.by a.m a.level)
unfolding long_product
rest_is c =
    let l = level-of c in
    let s = start-2 c in
    rw (round_trip (sfits_of l.clamp-near.type_inv), near_is l, round_trip (overflow_mul-m (goal.at.After-product-made c).After-struct_told-3-1), to_z_pos w32 {n = s.args.m} (omega arith), round_trip (long_numbers s.requires).base, round_trip (long_numbers s.requires).add) at c.product-made.ensures.rest

-- the two tests, in the contract's terms
below_is : (c : After-product-made) {b : Bool} → let a = (start-2 c).args in lt_z c.product-made.result.over a.by.low ≡ b → lt_z (shift_right (long_product a.by a.m a.level) 7) a.by.low ≡ b
below_is c h = let a = (start-2 c).args in ap (λ (z : ℤ). lt_z z a.by.low) (sym (over_is c)) ∙ h

above_is : (c : After-product-made) {b : Bool} → let a = (start-2 c).args in lt_z a.by.top c.product-made.result.over ≡ b → lt_z a.by.top (shift_right (long_product a.by a.m a.level) 7) ≡ b
above_is c h = let a = (start-2 c).args in ap (λ (z : ℤ). lt_z a.by.top z) (sym (over_is c)) ∙ h

abbrev made-1 : Else-made-by → After-product-made
made-1 c = (goal.at.Else-made-by c).After-product-made

not_below : (c : Else-made-by) → let r = made-1 c in let a = (start-2 r).args in lt_z (shift_right (long_product a.by a.m a.level) 7) a.by.low ≡ false
not_below c = let r = made-1 c in below_is r (lt_z_round_trip r.product-made.ensures.fits (long_numbers (start-2 r).requires).low c.if-made-by.false)

pub returns-then-made-by : goal.returns-then-made-by
unfolding long_level
returns-then-made-by c =
    let s = start-2 (goal.at.returns-then-made-by c).After-product-made in
    let a = below_is (goal.at.returns-then-made-by c).After-product-made (lt_z_round_trip c.product-made.ensures.fits (long_numbers s.requires).low c.if-made-by.true) in
    record {
      value = round_trip (least_fits s) ∙ rw a;
      limited = ap (λ (b : Bool). cond b 1 0) (sym (long_below s.args.by s.args.m s.args.level a));
    }

pub returns-then-by-made : goal.returns-then-by-made
unfolding long_level
returns-then-by-made c =
    let r = made-1 (goal.at.returns-then-by-made c).Else-made-by in
    let s = start-2 r in
    let a = not_below (goal.at.returns-then-by-made c).Else-made-by in
    let b = above_is r (lt_z_round_trip (long_numbers s.requires).top r.product-made.ensures.fits c.if-by-made.true) in
    record {
      value = round_trip (most_fits s) ∙ rw (a, b);
      limited = ap (λ (x : Bool). cond x 1 0) (sym (long_above s.args.by s.args.m s.args.level a b));
    }

-- between the two bounds
module _ (c : Else-by-made) where
  abbrev else-1 : Else-made-by
  else-1 = (goal.at.Else-by-made c).Else-made-by

  abbrev made : After-product-made
  made = made-1 else-1

  abbrev start : Start
  start = start-2 made

  not_above : let a = start.args in lt_z a.by.top (shift_right (long_product a.by a.m a.level) 7) ≡ false
  not_above = above_is made (lt_z_round_trip (long_numbers start.requires).top made.product-made.ensures.fits c.if-by-made.false)

  over_low : start.args.by.low ≤ℤ made.product-made.result.over
  over_low = lt_z_false (lt_z_round_trip made.product-made.ensures.fits (long_numbers start.requires).low else-1.if-made-by.false)

  over_top : made.product-made.result.over ≤ℤ start.args.by.top
  over_top = lt_z_false (lt_z_round_trip (long_numbers start.requires).top made.product-made.ensures.fits c.if-by-made.false)

  whole_is : let a = start.args in made.product-made.result.over *ℤ pos 128 +ℤ made.product-made.result.rest ≡ long_product a.by a.m a.level
  whole_is =
      let a = start.args in
      ap₂ (λ (x : ℤ) (y : ℤ). x *ℤ pos 128 +ℤ y) (over_is made) (rest_is made) ∙ rest_sum (long_product a.by a.m a.level)

pub whole-requires : goal.whole-requires
whole-requires c =
    let r = made c in
    let s = start c in
    let z = long_product s.args.by s.args.m s.args.level in record {
      sfits = over_fits s.requires r.product-made.result.over (over_low c) (over_top c);
      sfits_2 = whole_fits s.requires r.product-made.result.over (over_low c) (over_top c) r.product-made.result.rest (subst (λ (y : ℤ). pos 0 ≤ℤ y) (sym (rest_is r)) (rest_low z))
          (subst (λ (y : ℤ). y ≤ℤ pos 127) (sym (rest_is r)) (rest_high z));
    }

pub returns : goal.returns
unfolding shift_right
returns c =
    let s = start (goal.at.returns c).Else-by-made in
    let k = s.args.by in
    let a = not_below (else-1 (goal.at.returns c).Else-by-made) in
    let b = not_above (goal.at.returns c).Else-by-made in
    let v : pow2 k.up *ℤ shr_z c.whole.result (2 ^ k.down) ≡ long_level k s.args.m s.args.level =
    ap (λ (y : ℤ). pow2 k.up *ℤ shr_z y (2 ^ k.down)) (c.whole.ensures ∙ whole_is (goal.at.returns c).Else-by-made) ∙ long_between k s.args.m s.args.level a b
    in
    let o = rw (round_trip s.ranges.level, round_trip (least_fits s), round_trip (most_fits s)) at c.outside.ensures in
    record {
      value =
          ap (λ (y : ℤ). to_z w32 ((of_z w32 (shr_z y (2 ^ k.down)) * 2 ^ k.up) % 4294967296)) (round_trip {w = w32} {z = c.whole.result} (sfits_of c.whole.type_inv))
          ∙ shl_fits (shr_z c.whole.result (2 ^ k.down)) k.up (subst (λ (z : ℤ). SFits w32 z) (sym v) (long_fits s.requires s.args.m s.args.level))
          ∙ v;
      limited = o ∙ ap (λ (x : Bool). cond x 1 0) (sym (long_inside k s.args.m s.args.level a b));
    }
