-- `cases::reading::are_next` meets its contract: as many numbers were read as elements were passed, and compared with them.
use Rattle.std.proofs.Common.{◌≡◌, List, take, length}
use Rattle.std.specs.Cmp.Lexicographic.{pointwise}
use Rattle.cases.specs.Reading.{GivesEach}
use Rattle.cases.proofs.reading.are_next.Given as goal

abbrev pub invariant-loop-x : goal.invariant-loop-x
invariant-loop-x g l = (ys : List _) × (length ys ≡ l.x-index) × GivesEach g.T.Number.bytes (g.R.Read.remaining l.initial.input) ys (g.R.Read.remaining l.input) × (l.same ≡ pointwise g.T.PartialEq.eq (take l.x-index l.xs) ys)
