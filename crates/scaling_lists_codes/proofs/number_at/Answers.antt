-- `scaling_lists_codes::number_at` meets its contract: by what stands at the offset.
use mathlib.Core.Path.{ap}
use Rattle.scaling_lists_codes.specs.Syntax.{number_of, number_at}
use Rattle.scaling_lists_codes.proofs.number_at.Goals as goal

pub returns-in-Ok : goal.returns-in-Ok
unfolding number_at
returns-in-Ok c = (ap (number_of c.args.at c.args.too_long) c.in-Ok.ensures.0, c.in-Ok.ensures.1)

pub returns-in-Err-TooLong : goal.returns-in-Err-TooLong
unfolding number_at
returns-in-Err-TooLong c = (ap (number_of c.args.at c.args.too_long) (rw c.in-Err-TooLong.field-0-is at c.in-Err-TooLong.ensures.0), tt)

pub returns-in-Err-Ended : goal.returns-in-Err-Ended
unfolding number_at
returns-in-Err-Ended c = (ap (number_of c.args.at c.args.too_long) (rw c.in-Err-Ended.field-0-is at c.in-Err-Ended.ensures.0), tt)
