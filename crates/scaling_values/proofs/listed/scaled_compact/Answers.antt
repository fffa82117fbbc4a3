-- `scaling_values::listed::scaled_compact` meets its contract: each arm is a case of the definition, and between the two bounds the shift to the left fits.
use mathlib.Core.Path.{◌≡◌, ap, sym, subst, ◌∙◌}
use mathlib.Core.Bool.{Bool, false, cond}
use borrow.Author.Rules.{sfits_of}
use lib.IntN.{ℤ, ◌*ℤ◌}
use lib.Signed.{lt_z}
use mir.Facts.{sfits_widen}
use mir.Syntax.{w32}
use mir.Val.{SFits}
use Rattle.integers.specs.Shift.{pow2}
use Rattle.integers.proofs.MachineLaws.{round_trip, lt_z_round_trip}
use Rattle.scaling_values.specs.Listed.{compact_result, compact_level}
use Rattle.scaling_values.proofs.ListedLaws.{compact_numbers, shl_fits, compact_fits, compact_between, limited_below, limited_above, limited_between}
use Rattle.scaling_values.proofs.listed.scaled_compact.Goals as goal
use Rattle.scaling_values.proofs.listed.scaled_compact.Goals.{After-compact_result-shifted, Else-shifted-by, Start}

result_is : (c : After-compact_result-shifted) → c.compact_result-shifted.result ≡ compact_result c.args.by c.args.m c.args.level
result_is c = rw (round_trip c.ranges.level) at c.compact_result-shifted.ensures

result_fits : (c : After-compact_result-shifted) → SFits w32 c.compact_result-shifted.result
result_fits c = sfits_of c.compact_result-shifted.type_inv

-- the two tests, in the contract's terms
below_is : (c : After-compact_result-shifted) {b : Bool} → lt_z c.compact_result-shifted.result c.args.by.low ≡ b
    → lt_z (compact_result c.args.by c.args.m c.args.level) c.args.by.low ≡ b
below_is c h = ap (λ (z : ℤ). lt_z z c.args.by.low) (sym (result_is c)) ∙ h

above_is : (c : After-compact_result-shifted) {b : Bool} → lt_z c.args.by.top c.compact_result-shifted.result ≡ b
    → lt_z c.args.by.top (compact_result c.args.by c.args.m c.args.level) ≡ b
above_is c h = ap (λ (z : ℤ). lt_z c.args.by.top z) (sym (result_is c)) ∙ h

not_below : (c : Else-shifted-by) → lt_z (compact_result c.args.by c.args.m c.args.level) c.args.by.low ≡ false
not_below c = below_is (goal.at.Else-shifted-by c).After-compact_result-shifted (lt_z_round_trip (result_fits (goal.at.Else-shifted-by c).After-compact_result-shifted) (compact_numbers (goal.at.Else-shifted-by c).Start.requires).low c.if-shifted-by.false)

pub returns-then-shifted-by : goal.returns-then-shifted-by
unfolding compact_level
returns-then-shifted-by c =
    let a = below_is (goal.at.returns-then-shifted-by c).After-compact_result-shifted (lt_z_round_trip (result_fits (goal.at.returns-then-shifted-by c).After-compact_result-shifted) (compact_numbers (goal.at.returns-then-shifted-by c).Start.requires).low c.if-shifted-by.true) in
    record { value = rw a; limited = ap (λ (b : Bool). cond b 1 0) (sym (limited_below c.args.by c.args.m c.args.level a)) }

pub returns-then-by-shifted : goal.returns-then-by-shifted
unfolding compact_level
returns-then-by-shifted c =
    let a = not_below (goal.at.returns-then-by-shifted c).Else-shifted-by in
    let b = above_is (goal.at.returns-then-by-shifted c).After-compact_result-shifted (lt_z_round_trip (compact_numbers (goal.at.returns-then-by-shifted c).Start.requires).top (result_fits (goal.at.returns-then-by-shifted c).After-compact_result-shifted) c.if-by-shifted.true) in
    record { value = rw (a, b); limited = ap (λ (x : Bool). cond x 1 0) (sym (limited_above c.args.by c.args.m c.args.level a b)) }

pub returns : goal.returns
returns c =
    let k = c.args.by in
    let a = not_below (goal.at.returns c).Else-shifted-by in
    let b = above_is (goal.at.returns c).After-compact_result-shifted (lt_z_round_trip (compact_numbers (goal.at.returns c).Start.requires).top (result_fits (goal.at.returns c).After-compact_result-shifted) c.if-by-shifted.false) in
    let v = ap (λ (z : ℤ). pow2 k.up *ℤ z) (result_is (goal.at.returns c).After-compact_result-shifted) ∙ compact_between k c.args.m c.args.level a b in
    let o = rw (round_trip c.ranges.level) at c.outside.ensures in
    record {
      value = shl_fits c.compact_result-shifted.result k.up (subst (λ (z : ℤ). SFits w32 z) (sym v) (sfits_widen tt (compact_fits c.requires c.args.m c.args.level))) ∙ v;
      limited = o ∙ ap (λ (x : Bool). cond x 1 0) (sym (limited_between k c.args.m c.args.level a b));
    }
