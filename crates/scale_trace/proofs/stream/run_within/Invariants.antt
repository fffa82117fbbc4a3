-- `scale_trace::stream::run_within` meets its contract: what is left to write in the state reached is what is left of the whole listing, and that is the
-- history's.
use Prim.Native.Nat.{◌-◌}
use lib.ListN.{length}
use Rattle.feed_state.specs.Buffers.{lent}
use Rattle.feed_history.proofs.WalkLaws.{Going}
use Rattle.scale_trace.proofs.RunLaws.{listing_walk}
use Rattle.feed.proofs.LocalLaws.{Full}
use Rattle.scale_trace.proofs.stream.run_within.Given as goal

abbrev pub invariant-loop-state : goal.invariant-loop-state
invariant-loop-state l = Going listing_walk (lent l.initial.levels l.initial.coeff l.initial.inter l.initial.residual) l.input l.initial.out l.out l.state (lent l.levels l.coeff l.inter l.residual) l.end × Full (lent l.levels l.coeff l.inter l.residual) × Full (lent l.initial.levels l.initial.coeff l.initial.inter l.initial.residual)

abbrev pub decreases-loop-state : goal.decreases-loop-state
decreases-loop-state l = length l.input - l.state.offset
