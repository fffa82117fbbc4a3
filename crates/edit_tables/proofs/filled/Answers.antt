-- `edit_tables::filled` meets its contract: each place is that of its row and its column.
use native.Mathlib.Omega.{arith}
use Rattle.edit_tables.proofs.TableLaws.{filled_at}
use Rattle.edit_tables.proofs.filled.Goals as goal

pub returns : goal.returns
returns g c = filled_at c.loop-i.invariant.1 (λ i l. c.loop-i.invariant.2 i (omega arith))
