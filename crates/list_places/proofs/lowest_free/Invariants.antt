-- `list_places::lowest_free` meets its contract. The loop's invariant: no number below i is free.
use Rattle.integers.proofs.SearchLaws.{None}
use Rattle.list_places.specs.Stream.{is_free, numbered}
use Rattle.list_places.specs.Table.{stream_of}
use Rattle.list_places.proofs.lowest_free.Given as goal

abbrev pub invariant-loop-i : goal.invariant-loop-i
invariant-loop-i l = None (λ k. is_free (numbered (stream_of l.table l.stream) k)) l.i
