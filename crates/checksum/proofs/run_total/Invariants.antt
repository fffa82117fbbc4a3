-- `checksum::run_total` meets its contract. The loop's invariant: the sum is what the first k samples add, at most 510 for each.
use Rattle.std.proofs.Common.{◌≡◌, ◌*◌, ◌≤◌, length}
use Rattle.checksum.specs.Checksum.{total, run_term}
use Rattle.checksum.proofs.run_total.Given as goal

abbrev pub invariant-loop-k : goal.invariant-loop-k
invariant-loop-k l = (l.sum ≡ total l.k (run_term l.bit_depth l.mask l.run)) × (l.sum ≤ 510 * l.k) × (l.k ≤ length l.run)
