-- `edit_values::halve` meets its contract. The loop's invariant: no place below `low` is past, and every place from `high` on is.
use mathlib.Core.Path.{sym, ◌∙◌}
use native.Mathlib.Omega.{arith}
use Rattle.edit_values.proofs.OrderedLaws.{past_mono, past-none}
use Rattle.edit_values.proofs.halve.Goals as goal

pub loop-low-preserved-then-past : goal.loop-low-preserved-then-past
loop-low-preserved-then-past c =
    let l = c in
    let a = l.args in (
      omega arith,
      omega arith,
      omega arith,
      l.loop-low.invariant.3,
      λ o h k. past_mono a.p a.strict h (sym c.past.ensures ∙ c.if-past.true),
    )

pub loop-low-preserved : goal.loop-low-preserved
loop-low-preserved c =
    let l = c in
    let a = l.args in (
      omega arith,
      omega arith,
      omega arith,
      λ o h k. past-none a.p a.strict (omega arith) (sym c.past.ensures ∙ c.if-past.false),
      l.loop-low.invariant.4,
    )
