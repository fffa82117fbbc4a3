-- `feed_records::open_block::take_reading` meets its contract: without an open block it is refused; else the rows of the buffer are written, and the record's column count.
use mathlib.Core.Path.{◌≡◌}
use Prim.Native.Nat.{◌*◌, ◌≤◌}
use Rattle.std.proofs.Common.{rules, Err}
use native.Mathlib.Omega.{arith}
use Rattle.h265.proofs.RangeLaws.{size_square}
use Rattle.refusal.specs.declared.Refusal.TheVariants.{SizeInvalid, BlockMissing}
use Rattle.feed_state.specs.Buffers.{lent}
use Rattle.feed_state.proofs.StateLaws.{none_said, refused_takes}
use Rattle.feed_records.proofs.HeldLaws.{reading-closed, reading_sized, reading_takes}
use Rattle.feed_records.proofs.open_block.take_reading.Goals as goal
use Rattle.feed_records.proofs.open_block.take_reading.Goals.{In_ok-check_size}

pub returns-in_err-held : goal.returns-in_err-held
returns-in_err-held c =
    let e = c.args.residual.now in
    let told : c.from_residual.result ≡ Err c.in_err-held.field-0.0 = search rules in
    let why = none_said _ BlockMissing _ c.in_err-held.ensures.value in
    record { leaves = λ ls d g. rw (told, why.1, reading-closed c.args.s (lent ls d g e) why.0) (refused_takes c.args.s BlockMissing _ _ (lent ls d g e) _ (omega arith) (omega arith)) }

pub returns-in_err-check_size : goal.returns-in_err-check_size
returns-in_err-check_size c =
    let e = c.args.residual.now in
    let told : c.from_residual-in_err-check_size.result ≡ Err c.in_err-check_size.field-0.0 = search rules in
    let why = c.in_err-check_size.ensures in
    record {
      leaves = λ ls d g.
          rw (told, why.1, reading_sized c.args.s (lent ls d g e) c.in_ok-held.held c.in_ok-held.ensures.ok_part why.0)
          (refused_takes c.args.s SizeInvalid _ _ (lent ls d g e) _ (omega arith) (omega arith));
    }

few : (c : In_ok-check_size) → let n = c.in_ok-held.held.size in n * n ≤ 1024
few c = size_square c.in_ok-held.held.size c.in_ok-check_size.ensures.1

pub returns : goal.returns
returns c =
    let e = c.args.residual.now in
    rw (c.with_open.ensures, c.body_length.ensures)
    (record {
      leaves = λ ls d g.
          reading_takes c.args.s (lent ls d g e) c.in_ok-held.held c.in_ok-held.ensures.ok_part c.in_ok-check_size.ensures.0 (omega arith)
          (record { wrote = c.put_reading-end.ensures.wrote; bound = omega (arith, few (goal.at.returns c).In_ok-check_size, c.put_reading-end.ensures.bound) });
    })
