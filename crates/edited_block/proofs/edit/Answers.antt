-- `edited_block::edit` meets its contract: the refusals are the ladder's, then the way, the place and the value, and what passes them meets what
-- the stages ask.
use mathlib.Core.Path.{◌≡◌, refl, sym, ap, ap₂, ◌∙◌}
use Prim.Native.Nat.{ℕ, ◌+◌, ◌*◌}
use native.Mathlib.Omega.{arith}
use lib.IntN.{ℤ}
use lib.ListN.{length, set, length-set}
use Rattle.std.proofs.Common.{rules, Err}
use mir.Facts.{to_z-of_z}
use mir.Syntax.{w32}
use mir.Val.{to_z, of_z}
use Rattle.h265.specs.Range.{outside_range}
use Rattle.h265.proofs.RangeLaws.{size_bound}
use Rattle.refusal.specs.declared.Refusal.{Refusal}
use Rattle.coefficients.specs.Outside.{outside_refusal}
use Rattle.block_rules.specs.Columns.{column_count}
use Rattle.block_rules.specs.Edit.{Buffers, buffers, stopped, edited, edited_buffers, with_columns, Edits}
use Rattle.block_rules.specs.Work.{EditNeeds}
use Rattle.block_rules.specs.Opening.{range_of}
use Rattle.block_laws.proofs.OpeningLaws.{Fits}
use Rattle.block_laws.proofs.LadderLaws.{ladder_passed, fits_ask, opening_of, edit-refused, edit_way, edit-place, edit_outside, edit_done, edits_stopped}
use Rattle.edited_block.proofs.edit.Goals as goal
use Rattle.edited_block.proofs.edit.Goals.{After-is_outside-outside, After-outside_refusal-why, In_ok-block_refusal, Start}

abbrev lent : Start → Buffers
lent s = buffers s.args.coeff.now s.args.inter.now s.args.residual.now

-- a refused edit
stops : (s : Start) (why : Refusal) → edited s.args.block.now (lent s) s.args.row s.args.column s.args.value ≡ stopped s.args.block.now (lent s) why
    → Edits (edited s.args.block.now (lent s) s.args.row s.args.column s.args.value) (Err why) s.args.block.now s.args.coeff.now s.args.inter.now s.args.residual.now
stops s = edits_stopped s.args.block.now (lent s) s.args.row s.args.column s.args.value

pub returns-in_err-block_refusal : goal.returns-in_err-block_refusal
returns-in_err-block_refusal c =
    let s = (goal.at.returns-in_err-block_refusal c).Start in
    let why = c.in_err-block_refusal.field-0.0 in
    let told : c.from_residual.result ≡ Err why = search rules in
    rw told (stops s why (edit-refused s.args.block.now (lent s) s.args.row s.args.column s.args.value why c.in_err-block_refusal.ensures))

-- no condition of the ladder holds
fits : (c : In_ok-block_refusal) → Fits (opening_of c.args.block.now) (lent (goal.at.In_ok-block_refusal c).Start)
fits c = ladder_passed (opening_of c.args.block.now) (lent (goal.at.In_ok-block_refusal c).Start) c.in_ok-block_refusal.ensures

ask : (c : In_ok-block_refusal) → EditNeeds c.args.block.now.kind c.args.block.now.size c.args.block.now.precision.bit_depth (range_of (opening_of c.args.block.now)) (length c.args.coeff.now) (length c.args.inter.now) (length c.args.residual.now)
ask c = fits_ask (opening_of c.args.block.now) (lent (goal.at.In_ok-block_refusal c).Start) (fits c)

pub returns-in_err-check : goal.returns-in_err-check
returns-in_err-check c =
    let s = (goal.at.returns-in_err-check c).Start in
    let why = c.in_err-check.field-0.0 in
    let told : c.from_residual-in_err-check.result ≡ Err why = search rules in
    rw told (stops s why (edit_way s.args.block.now (lent s) s.args.row s.args.column s.args.value (fits (goal.at.returns-in_err-check c).In_ok-block_refusal) c.in_err-check.ensures.0 ∙ ap (stopped s.args.block.now (lent s)) (sym c.in_err-check.ensures.1)))

pub returns-in_err-check_place : goal.returns-in_err-check_place
returns-in_err-check_place c =
    let s = (goal.at.returns-in_err-check_place c).Start in
    let why = c.in_err-check_place.field-0.0 in
    let told : c.from_residual-in_err-check_place.result ≡ Err why = search rules in
    rw told (stops s why (edit-place s.args.block.now (lent s) s.args.row s.args.column s.args.value (fits (goal.at.returns-in_err-check_place c).In_ok-block_refusal) c.in_ok-check.ensures c.in_err-check_place.ensures.0 ∙ ap (stopped s.args.block.now (lent s)) (sym c.in_err-check_place.ensures.1)))

pub transform_range-range-requires : goal.transform_range-range-requires
transform_range-range-requires c = (ask (goal.at.transform_range-range-requires c).In_ok-block_refusal).depth.1

pub is_outside-outside-requires : goal.is_outside-outside-requires
is_outside-outside-requires c = rw c.transform_range-range.ensures (ask (goal.at.is_outside-outside-requires c).In_ok-block_refusal).range.1

pub outside_refusal-why-requires : goal.outside_refusal-why-requires
outside_refusal-why-requires c =
    let a = ask (goal.at.outside_refusal-why-requires c).In_ok-block_refusal in
    let p = c.in_ok-check_place.ensures in
    let b = size_bound c.args.block.now.size a.size in
    (rw c.transform_range-range.ensures a.range.1, omega (arith, p.1, b), omega (arith, p.2, b))

-- what the test says, of the value as given and for the range as defined
outside_is : (c : After-is_outside-outside) → outside_range (range_of (opening_of c.args.block.now)) c.args.value ≡ c.is_outside-outside.result
outside_is c =
    sym (c.is_outside-outside.ensures ∙ ap₂ (λ (k : ℕ) (v : ℤ). outside_range k v) c.transform_range-range.ensures (to_z-of_z c.ranges.value))

-- the refusal, of the value as given and for the range as defined
refusal_is : (c : After-outside_refusal-why) → outside_refusal (range_of (opening_of c.args.block.now)) c.args.value c.args.row c.args.column ≡ c.outside_refusal-why.result
refusal_is c =
    sym (c.outside_refusal-why.ensures ∙ ap₂ (λ (k : ℕ) (v : ℤ). outside_refusal k v c.args.row c.args.column) c.transform_range-range.ensures (to_z-of_z c.ranges.value))

pub returns-in_err-check-2 : goal.returns-in_err-check-2
returns-in_err-check-2 c =
    let s = (goal.at.returns-in_err-check-2 c).Start in
    let p = c.in_ok-check_place.ensures in
    let why = c.in_err-check-2.field-0.0 in
    let told : c.from_residual-in_err-check-2.result ≡ Err why = search rules in
    let outside = outside_is (goal.at.returns-in_err-check-2 c).After-is_outside-outside ∙ c.in_err-check-2.ensures.0 in
    let same = refusal_is (goal.at.returns-in_err-check-2 c).After-outside_refusal-why ∙ sym c.in_err-check-2.ensures.1 in
    rw told (stops s why (edit_outside s.args.block.now (lent s) s.args.row s.args.column s.args.value (fits (goal.at.returns-in_err-check-2 c).In_ok-block_refusal) c.in_ok-check.ensures p.1 p.2 outside ∙ ap (stopped s.args.block.now (lent s)) same))

pub edit_stages-requires : goal.edit_stages-requires
edit_stages-requires c =
    let p = c.in_ok-check_place.ensures in
    (rw c.transform_range-range.ensures (ask (goal.at.edit_stages-requires c).In_ok-block_refusal), p.1, p.2)

pub column_count-block-requires : goal.column_count-block-requires
column_count-block-requires c =
    let a = ask (goal.at.column_count-block-requires c).In_ok-block_refusal in
    (a.size, rw c.edit_stages.ensures.0 (simp length-set a.coeff))

pub returns : goal.returns
unfolding edited_buffers
returns c =
    let s = (goal.at.returns c).Start in
    let p = c.in_ok-check_place.ensures in
    let block = s.args.block.now in
    let inside = outside_is (goal.at.returns c).After-is_outside-outside ∙ c.in_ok-check-2.ensures in
    let z : to_z w32 (of_z w32 s.args.value) ≡ s.args.value = to_z-of_z s.ranges.value in
    let staged = c.edit_stages.ensures.1 in
    let after : ℕ → ℤ → Buffers = λ k v. edited_buffers block.kind block.size block.precision.bit_depth k (lent s) s.args.row s.args.column v in
    let coeff = c.edit_stages.ensures.0 ∙ ap (set s.args.coeff.now (s.args.row * block.size + s.args.column)) z in
    rw (edit_done block (lent s) s.args.row s.args.column s.args.value (fits (goal.at.returns c).In_ok-block_refusal) c.in_ok-check.ensures p.1 p.2 inside)
    (record {
      answered = refl;
      block = ap (with_columns block) (c.column_count-block.ensures ∙ ap (column_count block.size) coeff);
      coeff = coeff;
      inter = staged.inter ∙ ap₂ (λ (k : ℕ) (v : ℤ). (after k v).inter) c.transform_range-range.ensures z;
      res = staged.res ∙ ap₂ (λ (k : ℕ) (v : ℤ). (after k v).res) c.transform_range-range.ensures z;
    })
