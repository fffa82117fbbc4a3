-- `stages_wide::products::put_rounded` meets its contract: the sums passed are stored.
use lib.IntN.{pos}
use lib.ListN.{get_or}
use Rattle.integers.specs.Shift.{round_shift}
use Rattle.transform_1d.specs.Rows.{Placed}
use Rattle.stages_wide.proofs.products.put_rounded.Given as goal

abbrev pub invariant-loop-j : goal.invariant-loop-j
invariant-loop-j l = Placed l.at l.j (λ i. round_shift (get_or l.z i (pos 0)) l.shift) l.initial.out l.out
