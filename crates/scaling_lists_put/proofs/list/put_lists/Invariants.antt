-- `scaling_lists_put::list::put_lists` meets its contract. The loop's invariant: the lists before list j are written, and each took at most 1,106 bits.
use Prim.Native.Nat.{◌*◌, ◌≤◌}
use Rattle.text.specs.Text.{Wrote}
use Rattle.scaling_lists_taken.specs.Lent.{lent_lists}
use Rattle.scaling_lists_written.specs.Written.{written_up_to}
use Rattle.scaling_lists_put.specs.Lists.{set_lists}
use Rattle.scaling_lists_put.proofs.list.put_lists.Given as goal

abbrev pub invariant-loop-j : goal.invariant-loop-j
invariant-loop-j l = (l.at ≤ 1106 * l.j) × Wrote l.initial.bits 0 (written_up_to (lent_lists l.defaults) (set_lists l.set) l.j) l.bits l.at
