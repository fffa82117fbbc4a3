-- `vectors::Values::wide` meets its contract: each lane is the same number in 32 bits.
use mir.Syntax.{w16}
use Rattle.vectors.proofs.LanesLaws.{lanes_fit, wide_lanes}
use Rattle.vectors.proofs.Values.wide.Goals as goal

pub returns : goal.returns
returns c = wide_lanes c.args.self.v (lanes_fit w16 _ c.well_formed.0)
