-- `transform_1d::trans_matrix` meets its contract: the folding rule computes to the constant at all its entries.
use mathlib.Core.Path.{refl}
use Rattle.integers.specs.Lists.{tabulate, tabulate_from}
use Rattle.h265.specs.Matrix.{trans_matrix32, folded_entry, folded_angle, folding, folding_values}
use Rattle.transform_1d.proofs.trans_matrix.Goals as goal

pub returns : goal.returns
unfolding trans_matrix32 folded_entry folded_angle folding folding_values tabulate tabulate_from
returns c = refl
