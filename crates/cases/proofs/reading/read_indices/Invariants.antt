-- `cases::reading::read_indices` meets its contract: the reader gave the elements that were passed.
use Rattle.std.proofs.Common.{◌≡◌, take, length}
use Rattle.std.specs.Int.{w16, to_le_bytes}
use Rattle.cases.specs.Reading.{GivesEach}
use Rattle.cases.proofs.reading.read_indices.Given as goal

abbrev pub invariant-loop-x : goal.invariant-loop-x
invariant-loop-x g l = (length l.xs ≡ length l.initial.xs) × GivesEach (to_le_bytes w16) (g.R.Read.remaining l.initial.input) (take l.x-index l.xs) (g.R.Read.remaining l.input)
