-- `feed_state::settings::take_no_list` meets its contract: the state is the given one without its list.
use mathlib.Core.Path.{refl}
use native.Mathlib.Omega.{arith}
use Rattle.feed_rules.specs.Record.{no_list_effect}
use Rattle.feed_state.proofs.StateLaws.{quiet_moved}
use Rattle.feed_state.proofs.settings.take_no_list.Goals as goal

pub returns : goal.returns
unfolding no_list_effect
returns c =
    record { leaves = λ w. quiet_moved c.args.s _ w _ c.args.at (omega arith) (rw c.body_length.ensures at c.behind.ensures) refl }
