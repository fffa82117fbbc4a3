-- `checksum::row_total` meets its contract. The loop's invariant: the sum is what the columns before x add, and x is a multiple of 128,
-- at the end perhaps past the width.
use Rattle.std.proofs.Common.{◌≡◌, ◌-◌, ◌*◌, ◌%◌, ◌≤◌, min}
use Rattle.checksum.specs.Checksum.{total, column_term}
use Rattle.checksum.proofs.row_total.Given as goal

abbrev pub invariant-loop-x : goal.invariant-loop-x
invariant-loop-x l = (l.sum ≡ total (min l.x l.width) (column_term l.bit_depth l.first l.y l.plane)) × (l.sum ≤ 510 * l.x) × (l.x % 128 ≡ 0) × (l.x ≤ 16512)

abbrev pub decreases-loop-x : goal.decreases-loop-x
decreases-loop-x l = l.width - l.x
