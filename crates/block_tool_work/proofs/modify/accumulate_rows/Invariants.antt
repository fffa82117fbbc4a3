-- `block_tool_work::modify::accumulate_rows` meets its contract. The loop's invariant: the first i places hold their sums, and the others still their samples.
use Prim.Native.Nat.{◌*◌, ◌≤◌}
use Rattle.integers.proofs.ListsLaws.{Stored}
use Rattle.block_tool_rules.specs.declared.Accumulate.TheVariants.{AlongRows}
use Rattle.block_tool_rules.specs.Modification.{accumulated}
use Rattle.block_tool_work.specs.Work.{at}
use Rattle.block_tool_work.proofs.modify.accumulate_rows.Given as goal

abbrev pub invariant-loop-i : goal.invariant-loop-i
invariant-loop-i l = Stored (accumulated AlongRows l.n (at l.initial.out)) l.initial.out l.i l.out × (l.i ≤ l.n * l.n)
