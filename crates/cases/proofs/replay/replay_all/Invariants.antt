-- `cases::replay::replay_all` meets its contract: every call so far answered true.
use Rattle.std.proofs.Common.{true, replicate}
use Rattle.std.specs.List.{FoldsTo}
use Rattle.cases.proofs.replay.replay_all.Given as goal

abbrev pub invariant-loop-turn : goal.invariant-loop-turn
invariant-loop-turn g l = goal.F-IsAlwaysCallable g l.replay × FoldsTo (λ p x q. goal.F-step g p x q) l.fn.replay (replicate l.turn true) l.replay
