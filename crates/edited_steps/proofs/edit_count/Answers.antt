-- `edited_steps::edit_count` meets its contract: the least of all lengths, two by two.
use mathlib.Core.Path.{ap₂, ◌∙◌}
use Prim.Native.Nat.{min}
use Rattle.edited_steps.specs.Steps.{edit_count}
use Rattle.edited_steps.proofs.edit_count.Goals as goal

pub returns : goal.returns
unfolding edit_count
returns c =
    c.min-7.ensures
    ∙ ap₂ min (c.min-3.ensures ∙ ap₂ min c.min.ensures c.min-2.ensures) (c.min-6.ensures ∙ ap₂ min c.min-4.ensures c.min-5.ensures)
