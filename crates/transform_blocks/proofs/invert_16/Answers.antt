-- `transform_blocks::invert_16` meets its contract: each test is the next condition of the ladder, and 16-bit coefficients lie in the range.
use mathlib.Core.Path.{◌≡◌, sym, ap, ◌∙◌}
use mathlib.Core.Bool.{Bool, true, false}
use Prim.Native.Nat.{ℕ, ◌-◌, ◌*◌, ◌≤◌}
use native.Mathlib.Omega.{arith}
use lib.Arith.{digits_lt}
use lib.ListN.{length}
use Rattle.std.proofs.Common.{rules, Err}
use Rattle.integers.specs.Lists.{overwrite}
use Rattle.h265.specs.Range.{transform_range}
use Rattle.h265.specs.Transform.{row_order, residual}
use Rattle.h265.proofs.RangeLaws.{size_square}
use Rattle.refusal.specs.Written.{wrote}
use Rattle.refusal.proofs.ConditionLaws.{size_accepted, depth_accepted, width_accepted, block_room}
use Rattle.transform_1d.specs.MatrixOf.{matrix_of}
use Rattle.transform_blocks.proofs.BlocksLaws.{writes_done, Checked, ladder_refused, ladder_passed, inverted_done, block_least, plain_needs, plain_result}
use Rattle.transform_blocks.proofs.NarrowLaws.{none_outside}
use Rattle.transform_blocks.proofs.invert_16.Goals as goal
use Rattle.transform_blocks.proofs.invert_16.Goals.{In_ok-block_refusal}

pub returns-in_err-block_refusal : goal.returns-in_err-block_refusal
returns-in_err-block_refusal c =
    let a = c.args in
    let told : c.from_residual.result ≡ Err c.in_err-block_refusal.field-0.0 = search rules in
    rw told
    (ladder_refused true a.kind a.n a.bit_depth false a.nx a.coeff.now a.out.now c.in_err-block_refusal.field-0.0 (rw (c.new.ensures.0, c.new.ensures.1) at c.in_err-block_refusal.ensures))

-- nothing before row 9 holds
checked : (c : In_ok-block_refusal) → Checked true c.args.n c.args.bit_depth false (length c.args.coeff.now) (length c.args.out.now)
checked c =
    let a = c.args in
    ladder_passed true a.kind a.n a.bit_depth false a.nx a.coeff.now a.out.now (rw (c.new.ensures.0, c.new.ensures.1) at c.in_ok-block_refusal.ensures)

pub overflow_mul-n : goal.overflow_mul-n
overflow_mul-n c =
    let n = c.args.n in
    record { fits = omega (arith, size_square n (size_accepted n (checked (goal.at.overflow_mul-n c).In_ok-block_refusal).size)) }

pub elements_fit-requires : goal.elements_fit-requires
elements_fit-requires c = block_room c.args.n _ (checked (goal.at.elements_fit-requires c).In_ok-block_refusal).input

pub residual_plain-requires : goal.residual_plain-requires
residual_plain-requires c =
    let a = c.args in
    let n = a.n in
    let k = checked (goal.at.residual_plain-requires c).In_ok-block_refusal in
    let d = depth_accepted a.bit_depth k.depth in
    let shift : 11 ≤ 20 - a.bit_depth = omega (arith, (width_accepted a.bit_depth Bool.false k.width).0) in (
      plain_needs a.kind n a.bit_depth c.min.result a.coeff.now (length a.out.now) record {
        size = size_accepted n k.size;
        dst = c.requires.dst;
        least = d.0;
        most = d.1;
        columns = rw c.min.ensures (omega arith);
        long = block_room n _ k.input;
        room = block_room n _ k.output;
        fits = λ i j hi hj. c.elements_fit.ensures.at _ (digits_lt {q = i} {m = n} {r = j} {c = n} hi (omega (arith, rw c.min.ensures at hj)));
      },
      shift,
    )

pub returns : goal.returns
unfolding transform_range
returns c =
    let a = c.args in
    writes_done (inverted_done true a.kind a.n a.bit_depth false a.nx a.coeff.now a.out.now (checked (goal.at.returns c).In_ok-block_refusal)
    (none_outside a.n a.nx a.coeff.now c.elements_fit.ensures)
    ∙ ap wrote (sym (plain_result (matrix_of a.kind a.n) a.n a.bit_depth c.min.result a.coeff.now a.out.now c.residual_plain.new.out c.residual_plain.ensures ∙ ap (λ (k : ℕ). overwrite (a.n * a.n) (row_order a.n (residual (matrix_of a.kind a.n) a.n a.bit_depth 15 k a.coeff.now)) a.out.now) c.min.ensures
    ∙ block_least (matrix_of a.kind a.n) a.n a.bit_depth 15 a.nx a.coeff.now a.out.now)))
