-- `cases::replay::replay_all` meets its contract: one more call answered true.
use Rattle.std.proofs.Common.{rules, of_calls, true, List, Bool, subst}
use Rattle.std.proofs.lemmas.List.{replicate-append-replicate}
use Rattle.std.proofs.lemmas.Fn.{FoldsTo-push}
use Rattle.std.specs.List.{FoldsTo}
use Rattle.cases.proofs.replay.replay_all.Goals as goal

pub loop-turn-preserved : goal.loop-turn-preserved
loop-turn-preserved g c =
    let pushed = FoldsTo-push (λ p x q. goal.F-step g p x q) c.args.replay _ _ true c.replay.new.self c.loop-turn.invariant.1 c.if-not-replay.ensures in
    (search (rules, of_calls), subst (λ (answers : List Bool). FoldsTo (λ p x q. goal.F-step g p x q) c.args.replay answers c.replay.new.self) (replicate-append-replicate c.loop-turn.turn 1 true) pushed)
