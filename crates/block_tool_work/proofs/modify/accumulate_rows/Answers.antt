-- `block_tool_work::modify::accumulate_rows` meets its contract. The loop's invariant: the first i places hold their sums, and the others still their samples.
use mathlib.Core.Path.{sym, subst, ◌∙◌}
use mathlib.Core.List.{List}
use Prim.Native.Nat.{◌+◌, ◌<◌}
use native.Mathlib.Omega.{arith}
use lib.IntN.{ℤ}
use lib.ListN.{length}
use Rattle.integers.proofs.ListsLaws.{Stored, stored_none}
use Rattle.block_tool_rules.specs.declared.Accumulate.TheVariants.{AlongRows}
use Rattle.block_tool_rules.specs.Modification.{accumulated}
use Rattle.block_tool_work.specs.Work.{at}
use Rattle.block_tool_work.proofs.AccumulationLaws.{along_first, along_later, taken_fits, taken_stored, stored_kept, stored_rest}
use Rattle.block_tool_work.proofs.modify.accumulate_rows.Goals as goal
use Rattle.block_tool_work.proofs.modify.accumulate_rows.Goals.{then-i-n-ne0, else-i-n-ne0}

pub loop-i-init : goal.loop-i-init
loop-i-init c = (stored_none, omega arith)

pub overflow_add-out : goal.overflow_add-out
overflow_add-out c =
    let a = c.args in
    taken_fits AlongRows a.n a.out.now c.requires.0 c.requires.2 c.loop-i.i c.loop-i-test.true c.loop-i.invariant.0 (along_later a.n (at a.out.now) c.requires.0 c.loop-i.i c.if-i-n-ne0.true)
    (record { sfits = omega arith }) (record { sfits = omega arith })

pub loop-i-preserved : goal.loop-i-preserved
loop-i-preserved c =
    let a = c.args in
    let i = c.loop-i.i in
    let s = c.loop-i.invariant.0 in
    let inside : i < length a.out.now = omega (arith, c.requires.1, c.loop-i-test.true) in (
      elim c.if-i-n-ne0.branch [
        | then-i-n-ne0 w ↦ subst (λ (xs : List ℤ). Stored (accumulated AlongRows a.n (at a.out.now)) a.out.now (i + 1) xs) (sym w.out-is)
            (taken_stored AlongRows a.n a.out.now c.requires.0 c.requires.2 i c.loop-i-test.true s (along_later a.n (at a.out.now) c.requires.0 i w.if-i-n-ne0.true)
            (record { sfits = omega arith }) (record { sfits = omega arith }) inside)
        | else-i-n-ne0 w ↦ subst (λ (xs : List ℤ). Stored (accumulated AlongRows a.n (at a.out.now)) a.out.now (i + 1) xs) (sym w.out-is)
            (stored_kept s inside (stored_rest s i (omega arith) ∙ sym (along_first a.n (at a.out.now) c.requires.0 i w.if-i-n-ne0.false)))
      ],
      omega (arith, c.loop-i-test.true),
    )
