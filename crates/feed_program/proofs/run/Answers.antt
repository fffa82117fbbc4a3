-- `feed_program::run` meets its contract: one more turn answered the state of the next, and the last one none.
use Rattle.std.proofs.Common.{rules, of_calls, inl, inr, ◌+◌, [], ◌∷◌, ◌++◌, refl, ap, ◌∙◌, le_antisymm}
use Rattle.std.proofs.lemmas.Fn.{FoldsTo-push}
use lib.ListN.{length-append}
use Rattle.feed_program.specs.Reading.{Turned}
use Rattle.feed_program.proofs.run.Goals as goal

pub loop-done-preserved : goal.loop-done-preserved
loop-done-preserved g c =
    let i = c.loop-done.invariant.1 in
    let next = c.in-Some.next in
    let pushed = FoldsTo-push (Turned (λ f s r h. goal.F-step g f s r h)) (c.args.turn.now, i.0) i.1 (c.loop-done.turn, c.loop-done.state) next (c.turn.new.self, next) i.3 (c.in-Some.ensures, refl) in
    (search (rules, of_calls), (i.0, i.1 ++ (next ∷ []), i.2, pushed, length-append i.1 (next ∷ []) ∙ ap (λ n. n + 1) i.4))

pub returns-after-loop-done : goal.returns-after-loop-done
returns-after-loop-done g c =
    let i = c.loop-done.invariant.1 in
    (i.0, i.2, (i.1, (c.loop-done.turn, c.loop-done.state), i.3, inl (i.4 ∙ le_antisymm c.loop-done.auto.done-end c.loop-done-test.false, refl)))

pub returns-in_default : goal.returns-in_default
returns-in_default g c =
    let i = c.loop-done.invariant.1 in
    (i.0, i.2, (i.1, (c.loop-done.turn, c.loop-done.state), i.3, inr c.in_default.ensures))
