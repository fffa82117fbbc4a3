-- `coefficients::check_inside` meets its contract: where no coefficient at all lies outside, none that is read does; else the rows decide.
use Rattle.coefficients.proofs.OutsideLaws.{flat_passes}
use Rattle.coefficients.proofs.check_inside.Goals as goal

pub returns-then-all_inside : goal.returns-then-all_inside
returns-then-all_inside c =
    flat_passes c.args.range c.args.n c.args.nx c.args.coeff.now c.requires.2 (c.all_inside.ensures c.if-all_inside.true)
