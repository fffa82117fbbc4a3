-- `scaling_lists::coded::entries_from` meets its contract. The loop's invariant: what is left to read, from here, gives what the whole gives.
use Rattle.scaling_lists.proofs.EntriesLaws.{Entries}
use Rattle.scaling_lists.proofs.coded.entries_from.Given as goal

abbrev pub invariant-loop-place : goal.invariant-loop-place
invariant-loop-place l = Entries l.bytes l.scan l.first l.start l.initial.entries l.entries l.next l.at l.place-index
