-- `wide_parts::narrow_run` meets its contract: as long as `fits` is true the values passed fit.
use mathlib.Core.Path.{◌≡◌}
use mathlib.Core.Bool.{true}
use Prim.Native.Nat.{◌≤◌}
use Rattle.integers.specs.Within.{Narrow}
use Rattle.wide_parts.proofs.narrow_run.Given as goal

abbrev pub invariant-loop-j : goal.invariant-loop-j
invariant-loop-j l = (l.j ≤ l.w) × (l.fits ≡ true → Narrow l.j l.s)
