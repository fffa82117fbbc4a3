-- `diagonal::up_right_4` meets its contract: the table is the order that clause 6.5.3 gives, by computation.
use mathlib.Core.Path.{refl}
use Rattle.diagonal.specs.Scan.{inside, diagonal, diagonals, up_right}
use Rattle.diagonal.proofs.up_right_4.Goals as goal

pub returns : goal.returns
unfolding inside diagonal diagonals up_right
returns c = refl
