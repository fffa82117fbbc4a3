-- `feed_program::run` meets its contract: every turn so far answered the state of the next.
use Rattle.std.proofs.Common.{◌≡◌, List, length}
use Rattle.std.specs.List.{FoldsTo}
use Rattle.feed_rules.specs.Feed.{beginning}
use Rattle.feed_state.specs.Buffers.{Lent, closed}
use Rattle.feed_state.specs.Taken.{state_of}
use Rattle.feed_state.specs.declared.State.{State}
use Rattle.feed_program.specs.Reading.{Turned}
use Rattle.feed_program.proofs.run.Given as goal

abbrev pub invariant-loop-done : goal.invariant-loop-done
invariant-loop-done g l =
    goal.F-IsAlwaysCallable g l.turn
    × ((first : State) × (states : List State) × ((w : Lent) → state_of first w ≡ beginning (closed w))
    × FoldsTo (Turned (λ f s r h. goal.F-step g f s r h)) (l.initial.turn, first) states (l.turn, l.state) × (length states ≡ l.done))
