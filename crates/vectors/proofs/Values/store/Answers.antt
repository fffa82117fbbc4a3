-- `vectors::Values::store` meets its contract: the lanes go to memory as they are.
use mir.Syntax.{w16}
use Rattle.vectors.proofs.LanesLaws.{lanes_fit, map_trip, placed}
use Rattle.vectors.proofs.Values.store.Goals as goal

pub returns : goal.returns
returns c =
    rw (map_trip w16 c.args.self.v (lanes_fit w16 _ c.well_formed.0))
    (placed c.args.at 4 c.args.out.now c.args.self.v c.args.self.four c.requires)
