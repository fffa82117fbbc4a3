-- `bits_written::put_bytes` meets its contract. The loop's invariant: the first k bytes are stored.
use Rattle.integers.proofs.ListsLaws.{Stored}
use Rattle.bits_written.specs.Bytes.{byte_of}
use Rattle.bits_written.proofs.put_bytes.Given as goal

abbrev pub invariant-loop-k : goal.invariant-loop-k
invariant-loop-k l = Stored (byte_of l.bits) l.initial.out l.k l.out
