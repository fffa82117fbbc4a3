-- `scaling_lists_put::codes::put_difference` meets its contract: se(v) is ue(v) of that number.
use Rattle.bits_written.specs.Codes.{signed_bits}
use Rattle.scaling_lists_put.proofs.codes.put_difference.Goals as goal

pub returns : goal.returns
unfolding signed_bits
returns c = rw c.code_number.ensures.0 at c.put_code.ensures
