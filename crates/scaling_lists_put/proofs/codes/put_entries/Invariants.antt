-- `scaling_lists_put::codes::put_entries` meets its contract: the deltas of the positions that are left are left to write, and each took at most 17 bits.
use Prim.Native.Nat.{◌+◌, ◌*◌, ◌≤◌}
use lib.ListN.{drop}
use Rattle.text.proofs.WroteLaws.{Left}
use Rattle.scaling_lists_written.specs.Written.{delta_bits}
use Rattle.scaling_lists_put.proofs.codes.put_entries.Given as goal

abbrev pub invariant-loop-place : goal.invariant-loop-place
invariant-loop-place l = (l.at ≤ l.start + 17 * l.place-index)
    × Left l.initial.bits l.start (delta_bits l.scan l.first l.entries) l.bits l.at (delta_bits (drop l.place-index l.scan) l.next l.entries)
