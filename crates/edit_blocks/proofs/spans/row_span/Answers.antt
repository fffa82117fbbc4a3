-- `edit_blocks::spans::row_span` meets its contract: the places that are left hit the samples passed, and no other place does.
use native.Mathlib.Omega.{arith}
use Rattle.edit_blocks.proofs.SieveLaws.{sieved_join, sieved_to}
use Rattle.edit_blocks.proofs.spans.row_span.Goals as goal

pub loop-j-preserved : goal.loop-j-preserved
loop-j-preserved c =
    let l = c in
    (omega arith, sieved_to (sieved_join l.loop-j.invariant.1 (omega arith) (omega arith) c.sample_span-left.ensures) (omega arith))
