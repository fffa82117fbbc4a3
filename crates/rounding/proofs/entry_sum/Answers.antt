-- `rounding::entry_sum` meets its contract: by the kind.
use Rattle.rounding.specs.Exact.{entry_sum}
use Rattle.rounding.proofs.entry_sum.Goals as goal

pub returns-in-Dct : goal.returns-in-Dct
unfolding entry_sum
returns-in-Dct c = rw (c.in-Dct.is, c.dct_sum.ensures)

pub returns-in-Dst : goal.returns-in-Dst
unfolding entry_sum
returns-in-Dst c = rw c.in-Dst.is
