-- `stages_wide::moves::column_narrow` meets its contract: while `fits` stays, the values passed fit 16 bits.
use mathlib.Core.Path.{◌≡◌}
use mathlib.Core.Bool.{true}
use Rattle.stages_wide.specs.Parts.{NarrowColumn}
use Rattle.stages_wide.proofs.moves.column_narrow.Given as goal

abbrev pub invariant-loop-k : goal.invariant-loop-k
invariant-loop-k l = l.fits ≡ true → NarrowColumn l.n l.column l.k l.s
