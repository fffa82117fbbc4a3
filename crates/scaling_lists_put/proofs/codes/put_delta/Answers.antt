-- `scaling_lists_put::codes::put_delta` meets its contract: the delta is the difference of the entry, moved by 128, to 128.
use Rattle.scaling_lists_written.specs.Written.{delta_from}
use Rattle.scaling_lists_put.proofs.codes.put_delta.Goals as goal

pub returns : goal.returns
unfolding delta_from
returns c = c.put_difference.ensures
