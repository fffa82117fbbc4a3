-- `cases::reading::read_all` meets its contract: the reader gave the elements that were passed.
use Rattle.std.proofs.Common.{◌≡◌, take, length}
use Rattle.cases.specs.Reading.{GivesEach}
use Rattle.cases.proofs.reading.read_all.Given as goal

abbrev pub invariant-loop-x : goal.invariant-loop-x
invariant-loop-x g l = (length l.xs ≡ length l.initial.xs) × GivesEach g.T.Number.bytes (g.R.Read.remaining l.initial.input) (take l.x-index l.xs) (g.R.Read.remaining l.input)
