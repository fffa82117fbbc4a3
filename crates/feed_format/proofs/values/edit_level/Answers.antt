-- `feed_format::values::edit_level` meets its contract: the four bytes behind row and column.
use Rattle.std.proofs.Common.{w32}
use mathlib.Core.Path.{◌∙◌}
use borrow.Author.Rules.{sfits_of}
use Rattle.integers.proofs.MachineLaws.{round_trip}
use Rattle.feed_format.specs.Format.{level_at}
use Rattle.feed_format.proofs.ValueLaws.{edit-level}
use Rattle.feed_format.proofs.values.edit_level.Goals as goal

pub returns : goal.returns
unfolding level_at
returns c = round_trip {w = w32} (sfits_of c.level.type_inv) ∙ c.level.ensures ∙ edit-level _
