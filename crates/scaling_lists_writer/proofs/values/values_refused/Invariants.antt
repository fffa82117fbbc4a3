-- `scaling_lists_writer::values::values_refused` meets its contract. The loop's invariant: the lists before list j can be written.
use mathlib.Core.Path.{◌≡◌}
use mathlib.Core.Bool.{true}
use Rattle.scaling_lists_codes.specs.Syntax.{size_id}
use Rattle.scaling_lists_written.specs.Same.{every, list_at}
use Rattle.scaling_lists_put.specs.Lists.{set_lists}
use Rattle.scaling_lists_writer.specs.Answers.{nonzero}
use Rattle.scaling_lists_writer.proofs.values.values_refused.Given as goal

abbrev pub invariant-loop-j : goal.invariant-loop-j
invariant-loop-j l = every l.j (λ k. nonzero (size_id k) (list_at (set_lists l.set) k)) ≡ true
