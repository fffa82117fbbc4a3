-- `scaling_lists_put::same::nearest` meets its contract. The loop's invariant: none of the d lists before list j is the same.
use Prim.Native.Nat.{◌-◌}
use Rattle.integers.proofs.SearchLaws.{None}
use Rattle.scaling_lists_codes.specs.Syntax.{size_id}
use Rattle.scaling_lists_written.specs.Same.{same_list, list_at}
use Rattle.scaling_lists_put.specs.Lists.{set_lists}
use Rattle.scaling_lists_put.proofs.same.nearest.Given as goal

abbrev pub invariant-loop-d : goal.invariant-loop-d
invariant-loop-d l = None (λ d. same_list (size_id l.j) (list_at (set_lists l.set) l.j) (list_at (set_lists l.set) (l.j - 1 - d))) l.d
