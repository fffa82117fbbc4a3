-- `integers::pow2` meets its contract: below 63 the shift of 1 loses nothing.
use Rattle.std.specs.Int.{w64}
use Rattle.integers.proofs.MachineLaws.{shl_one}
use Rattle.integers.proofs.pow2.Goals as goal

pub returns : goal.returns
returns c = shl_one w64 c.args.s c.requires
