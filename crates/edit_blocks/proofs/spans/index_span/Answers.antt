-- `edit_blocks::spans::index_span` meets its contract: the places that are left hit the samples of the rows passed, and no other place does.
use mathlib.Core.Path.{ap}
use Prim.Native.Nat.{ℕ, ◌*◌}
use native.Mathlib.Nat.{mul-le-mul_right}
use native.Mathlib.Omega.{arith}
use Rattle.edit_blocks.proofs.SieveLaws.{sieved_empty, sieved_join, sieved_to}
use Rattle.edit_blocks.proofs.spans.index_span.Goals as goal

pub returns-then-is_empty : goal.returns-then-is_empty
returns-then-is_empty c =
    let l = c in
    sieved_empty l.loop-m.invariant.1 (c.is_empty.ensures.0 c.if-is_empty.true) (mul-le-mul_right l.args.search.now.n l.loop-m.invariant.0)

pub loop-m-preserved : goal.loop-m-preserved
loop-m-preserved c =
    let l = c in
    (omega arith, sieved_to (sieved_join l.loop-m.invariant.1 (omega arith) (omega arith) c.row_span-left.ensures) (omega arith))

pub returns : goal.returns
returns c = sieved_to c.loop-m.invariant.1 (ap (λ (k : ℕ). k * c.args.search.now.n) (omega arith))
