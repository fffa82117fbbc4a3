-- `edit_tables::sums::widened` meets its contract: each number is the coefficient there.
use Rattle.std.proofs.Common.{rules}
use Rattle.h265.specs.Transform.{block_at}
use Rattle.edit_tables.proofs.TableLaws.{filled_holds}
use Rattle.edit_tables.proofs.sums.widened.Goals as goal

pub returns : goal.returns
unfolding block_at
returns c = filled_holds c.filled.ensures (λ m k x hm hk p. search rules)
