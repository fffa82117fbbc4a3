-- `edit_values::narrow` meets its contract: at the target is reached and not passed.
use Rattle.edit_values.proofs.OrderedLaws.{split_narrowed}
use Rattle.edit_values.proofs.narrow.Goals as goal

pub returns : goal.returns
returns c = split_narrowed c.args.p c.first_reached-from.ensures c.first_passed-to.ensures
