-- `cases::reading::read_named` meets its contract: the reader gave the bytes of the elements that were passed.
use Rattle.std.proofs.Common.{◌≡◌, List, ℕ, take, map, length}
use Rattle.cases.specs.Reading.{GivesEach, one_byte, named}
use Rattle.cases.proofs.reading.read_named.Given as goal

abbrev pub invariant-loop-x : goal.invariant-loop-x
invariant-loop-x g l = (length l.xs ≡ length l.initial.xs) × (bytes : List ℕ) × (take l.x-index l.xs ≡ map named bytes) × GivesEach one_byte (g.R.Read.remaining l.initial.input) bytes (g.R.Read.remaining l.input)
