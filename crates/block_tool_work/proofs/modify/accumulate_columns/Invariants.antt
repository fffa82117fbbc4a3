-- `block_tool_work::modify::accumulate_columns` meets its contract. The loop's invariant: the first i places hold their sums, at first the first row, which holds its own, and the others still their samples.
use Prim.Native.Nat.{◌*◌, ◌≤◌}
use Rattle.integers.proofs.ListsLaws.{Stored}
use Rattle.block_tool_rules.specs.declared.Accumulate.TheVariants.{DownColumns}
use Rattle.block_tool_rules.specs.Modification.{accumulated}
use Rattle.block_tool_work.specs.Work.{at}
use Rattle.block_tool_work.proofs.modify.accumulate_columns.Given as goal

abbrev pub invariant-loop-i : goal.invariant-loop-i
invariant-loop-i l = Stored (accumulated DownColumns l.n (at l.initial.out)) l.initial.out l.i l.out × (l.i ≤ l.n * l.n)
