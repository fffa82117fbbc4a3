-- `transform_blocks::invert_32` meets its contract: each test is the next condition of the ladder, and what is left lies in the range.
use mathlib.Core.Path.{◌≡◌, sym, ap, ap₂, ◌∙◌}
use mathlib.Core.Bool.{false}
use Prim.Native.Nat.{ℕ, ◌*◌, ◌≤◌}
use native.Mathlib.Omega.{arith}
use borrow.Author.Tests.{ltb-false}
use lib.ListN.{length}
use Rattle.std.proofs.Common.{rules, Err}
use Rattle.integers.specs.Lists.{overwrite}
use Rattle.h265.specs.Range.{transform_range}
use Rattle.h265.specs.Transform.{row_order, residual}
use Rattle.h265.proofs.RangeLaws.{transform_range_least, transform_range_most, transform_range_depth}
use Rattle.refusal.specs.Written.{left, wrote}
use Rattle.refusal.proofs.ConditionLaws.{size_accepted, depth_accepted, block_room}
use Rattle.coefficients.specs.Outside.{first_outside, refusal_at}
use Rattle.coefficients.proofs.OutsideLaws.{first_outside-inside}
use Rattle.transform_1d.specs.MatrixOf.{matrix_of}
use Rattle.transform_blocks.proofs.BlocksLaws.{writes_refused, writes_done, Checked, ladder_refused, ladder_passed, inverted_outside, inverted_done, block_least, first_outside_least}
use Rattle.transform_blocks.proofs.invert_32.Goals as goal
use Rattle.transform_blocks.proofs.invert_32.Goals.{After-min-columns, After-transform_range-range, In_ok-block_refusal}

pub returns-in_err-block_refusal : goal.returns-in_err-block_refusal
returns-in_err-block_refusal c =
    let a = c.args in
    let told : c.from_residual.result ≡ Err c.in_err-block_refusal.field-0.0 = search rules in
    rw told (ladder_refused false a.kind a.n _ _ a.nx a.coeff.now a.out.now c.in_err-block_refusal.field-0.0 c.in_err-block_refusal.ensures)

-- nothing before row 9 holds
checked : (c : In_ok-block_refusal) → Checked false c.args.n c.args.precision.bit_depth c.args.precision.extended (length c.args.coeff.now) (length c.args.out.now)
checked c = ladder_passed false c.args.kind c.args.n _ _ c.args.nx c.args.coeff.now c.args.out.now c.in_ok-block_refusal.ensures

pub transform_range-range-requires : goal.transform_range-range-requires
transform_range-range-requires c = (depth_accepted c.args.precision.bit_depth (checked c).depth).1

range_most : (c : After-transform_range-range) → c.transform_range-range.result ≤ 22
range_most c =
    let k = checked (goal.at.After-transform_range-range c).In_ok-block_refusal in
    rw c.transform_range-range.ensures (transform_range_most _ c.args.precision.extended (depth_accepted _ k.depth).1)

pub check_inside-requires : goal.check_inside-requires
check_inside-requires c =
    let p = goal.at.check_inside-requires c in
    let k = checked p.In_ok-block_refusal in
    (size_accepted c.args.n k.size, rw c.min-columns.ensures (omega arith), block_room c.args.n _ k.input, range_most p.After-transform_range-range)

-- what the search finds, for the count as given
first_is : (c : After-min-columns)
    → first_outside c.transform_range-range.result c.args.n c.min-columns.result c.args.coeff.now
    ≡ first_outside (transform_range c.args.precision.bit_depth c.args.precision.extended) c.args.n c.args.nx c.args.coeff.now
first_is c =
    ap₂ (λ (r k : ℕ). first_outside r c.args.n k c.args.coeff.now) c.transform_range-range.ensures c.min-columns.ensures
    ∙ first_outside_least _ c.args.n c.args.nx c.args.coeff.now

pub returns-in_err-check_inside : goal.returns-in_err-check_inside
returns-in_err-check_inside c =
    let p = goal.at.returns-in_err-check_inside c in
    let a = c.args in
    let e = c.in_err-check_inside.ensures in
    let told : c.from_residual-in_err-check_inside.result ≡ Err c.in_err-check_inside.field-0.0 = search rules in
    rw told
    (writes_refused _
    (inverted_outside false a.kind a.n _ _ a.nx a.coeff.now a.out.now (checked p.In_ok-block_refusal) (rw (first_is p.After-min-columns) at e.0)
    ∙ ap (left a.out.now) (sym (e.1 ∙ ap₂ (λ (r i : ℕ). refusal_at r a.n a.coeff.now i) c.transform_range-range.ensures (first_is p.After-min-columns)))))

pub invert_in-requires : goal.invert_in-requires
invert_in-requires c =
    let a = c.args in
    let p = goal.at.invert_in-requires c in
    let k = checked p.In_ok-block_refusal in
    let d = depth_accepted a.precision.bit_depth k.depth in
    let x = a.precision.extended in
    record {
      size = size_accepted a.n k.size;
      dst = c.requires.dst;
      depth = d;
      range = (
        rw c.transform_range-range.ensures (transform_range_least a.precision.bit_depth x),
        range_most p.After-transform_range-range,
        rw c.transform_range-range.ensures (transform_range_depth a.precision.bit_depth x d.0),
        rw c.transform_range-range.ensures (omega (arith, transform_range_least a.precision.bit_depth x, d.1)),
      );
      columns = rw c.min-columns.ensures (omega arith);
      long = block_room a.n _ k.input;
      room = block_room a.n _ k.output;
      inside = first_outside-inside c.transform_range-range.result a.n c.min-columns.result a.coeff.now (rw c.min-columns.ensures (omega arith)) (ltb-false _ (a.n * a.n) c.in_ok-check_inside.ensures);
    }

pub returns : goal.returns
returns c =
    let a = c.args in
    let p = goal.at.returns c in
    writes_done (inverted_done false a.kind a.n _ _ a.nx a.coeff.now a.out.now (checked p.In_ok-block_refusal)
    (ltb-false _ (a.n * a.n) (rw (first_is p.After-min-columns) at c.in_ok-check_inside.ensures))
    ∙ ap wrote (sym (c.invert_in.ensures
    ∙ ap₂ (λ (q k : ℕ). overwrite (a.n * a.n) (row_order a.n (residual (matrix_of a.kind a.n) a.n a.precision.bit_depth q k a.coeff.now)) a.out.now) c.transform_range-range.ensures c.min-columns.ensures
    ∙ block_least (matrix_of a.kind a.n) a.n a.precision.bit_depth _ a.nx a.coeff.now a.out.now)))
