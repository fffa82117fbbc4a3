-- `checksum::xor_mask` meets its contract: the expression is the definition's.
use Rattle.std.proofs.Common.{refl}
use Rattle.checksum.specs.Checksum.{xor_mask}
use Rattle.checksum.proofs.xor_mask.Goals as goal

pub returns : goal.returns
unfolding xor_mask
returns c = refl
