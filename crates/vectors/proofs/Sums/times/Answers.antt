-- `vectors::Sums::times` meets its contract: a shift of 32 bits to the left is a multiple, which fits.
use mathlib.Core.Path.{refl}
use mir.Syntax.{w32}
use Rattle.vectors.proofs.LanesLaws.{lanes_fit, two_long, times_lanes}
use Rattle.vectors.proofs.Sums.times.Goals as goal

pub invariant_of-result : goal.invariant_of-result
invariant_of-result c = record { four = two_long w32 _ c.args.self.v _ c.args.self.four refl }

pub returns : goal.returns
returns c = times_lanes c.args.s 4 c.args.self.v c.requires.0 c.args.self.four (lanes_fit w32 _ c.well_formed.0) c.requires.1
