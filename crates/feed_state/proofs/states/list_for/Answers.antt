-- `feed_state::states::list_for` meets its contract: the list in force is used where it is not ignored.
use mathlib.Core.Path.{refl, sym, ◌∙◌}
use Rattle.feed_rules.specs.Block.{list_for}
use Rattle.feed_state.proofs.states.list_for.Goals as goal

pub returns-then-list_ignored : goal.returns-then-list_ignored
unfolding list_for
returns-then-list_ignored c =
    let e = sym c.list_ignored.ensures ∙ c.if-list_ignored.true in
    record { value = rw e refl; entries = rw e refl }

pub returns : goal.returns
unfolding list_for
returns c =
    let e = sym c.list_ignored.ensures ∙ c.if-list_ignored.false in
    record { value = rw e c.scaling_list.ensures.value; entries = rw e c.scaling_list.ensures.entries }
