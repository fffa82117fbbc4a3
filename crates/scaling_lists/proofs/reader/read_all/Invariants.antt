-- `scaling_lists::reader::read_all` meets its contract. The loop's invariant: what is left to read, from here, gives what the whole gives.
use Rattle.scaling_lists_taken.specs.Lent.{lent_lists}
use Rattle.scaling_lists.proofs.ReaderLaws.{Going}
use Rattle.scaling_lists.proofs.reader.read_all.Given as goal

abbrev pub invariant-loop-j : goal.invariant-loop-j
invariant-loop-j l = Going (lent_lists l.defaults) l.bytes l.held l.at l.j
