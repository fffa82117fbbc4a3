-- `checksum::rows_total` meets its contract. The loop's invariant: the sum is that of the first y rows, modulo 2^32.
use Rattle.std.proofs.Common.{◌≡◌, ◌*◌, ◌%◌, ◌^◌, ◌≤◌}
use Rattle.checksum.specs.Checksum.{total, row_total}
use Rattle.checksum.proofs.rows_total.Given as goal

abbrev pub invariant-loop-y : goal.invariant-loop-y
invariant-loop-y l = (l.sum ≡ total l.y (λ k. row_total l.bit_depth l.extent.width (k * l.extent.stride) k l.plane) % 2 ^ 32) × (l.y ≤ l.extent.height)
