-- `block_tool_work::modify::accumulate_columns` meets its contract. The loop's invariant: the first i places hold their sums, at first the first row, which holds its own, and the others still their samples.
use native.Mathlib.Nat.{mul-le-mul_right}
use native.Mathlib.Omega.{arith}
use Rattle.std.specs.Prelude.{◌≤◌, ◌*◌}
use Rattle.h265.proofs.RangeLaws.{size_bound}
use Rattle.block_tool_rules.specs.declared.Accumulate.TheVariants.{DownColumns}
use Rattle.block_tool_rules.specs.Modification.{accumulated}
use Rattle.block_tool_work.specs.Work.{at}
use Rattle.block_tool_work.proofs.AccumulationLaws.{down_first, down_later, taken_fits, taken_stored, stored_firsts}
use Rattle.block_tool_work.proofs.modify.accumulate_columns.Goals as goal

pub loop-i-init : goal.loop-i-init
loop-i-init c =
    let a = c.args in
    let square : a.n ≤ a.n * a.n = omega (arith, mul-le-mul_right a.n (size_bound a.n c.requires.0).0) in
    (stored_firsts (accumulated DownColumns a.n (at a.out.now)) a.out.now a.n (omega (arith, square, c.requires.1)) (λ i h. down_first a.n (at a.out.now) c.requires.0 i h), square)

pub overflow_add-out : goal.overflow_add-out
overflow_add-out c =
    let a = c.args in
    taken_fits DownColumns a.n a.out.now c.requires.0 c.requires.2 c.loop-i.i c.loop-i-test.true c.loop-i.invariant.0 (down_later a.n (at a.out.now) c.requires.0 c.loop-i.i (omega arith)) (record { sfits = omega arith }) (record { sfits = omega arith })

pub loop-i-preserved : goal.loop-i-preserved
loop-i-preserved c =
    let a = c.args in (
      taken_stored DownColumns a.n a.out.now c.requires.0 c.requires.2 c.loop-i.i c.loop-i-test.true c.loop-i.invariant.0 (down_later a.n (at a.out.now) c.requires.0 c.loop-i.i (omega arith)) (record { sfits = omega arith }) (record { sfits = omega arith }) (omega (arith, c.requires.1, c.loop-i-test.true)),
      omega (arith, c.loop-i-test.true),
    )
