-- `feed_state::states::with_closed` meets its contract: count and offset are the definition's, each stopped before it would wrap.
use mathlib.Core.Path.{refl}
use Rattle.feed_state.specs.Taken.{capped}
use Rattle.feed_state.proofs.states.with_closed.Goals as goal

pub returns : goal.returns
unfolding capped
returns c = λ w. rw (c.behind.ensures, c.body_length.ensures, c.saturating_add.ensures) refl
