-- `transform_1d::dst_matrix` meets its contract: the rule computes to the constant at all its entries.
use mathlib.Core.Path.{refl}
use Rattle.integers.specs.Lists.{tabulate, tabulate_from}
use Rattle.h265.specs.Matrix.{dst_matrix, dst_entries}
use Rattle.transform_1d.proofs.dst_matrix.Goals as goal

pub returns : goal.returns
unfolding dst_matrix dst_entries tabulate tabulate_from
returns c = refl
