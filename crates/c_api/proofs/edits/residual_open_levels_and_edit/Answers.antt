-- `c_api::edits::residual_open_levels_and_edit` meets its contract: the answer says what the list's result says.
use mathlib.Core.Path.{sym}
use Rattle.integers.proofs.MachineLaws.{round_trip}
use Rattle.c_api.proofs.ListLaws.{lists_told}
use Rattle.c_api.proofs.edits.residual_open_levels_and_edit.Goals as goal

pub returns : goal.returns
returns c = rw (sym c.kind_of.ensures) (lists_told _ _ _ _ _ (rw (round_trip c.ranges.qp_prime, c.new-precision.ensures.0, c.new-precision.ensures.1) at c.open_levels_and_edit.ensures) c.from.ensures)
