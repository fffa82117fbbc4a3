-- `feed_state::states::start` meets its contract: nothing is given.
use mathlib.Core.Path.{refl}
use Rattle.feed_rules.specs.Feed.{beginning}
use Rattle.feed_state.proofs.states.start.Goals as goal

pub returns : goal.returns
unfolding beginning
returns c = λ w. refl
