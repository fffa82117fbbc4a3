-- `stages::blocks::clipped` meets its contract: the rounded sum is limited.
use mathlib.Core.Path.{ap, ◌∙◌}
use mir.Syntax.{w16, w32}
use mir.Val.{SFits}
use mir.Facts.{to_z-of_z}
use borrow.Author.Rules.{sfits_of}
use Rattle.h265.specs.Range.{clip_coeff}
use Rattle.stages.proofs.blocks.clipped.Goals as goal

pub returns : goal.returns
returns c =
    let sum : SFits w32 c.rounded.result = sfits_of c.rounded.type_inv in
    to_z-of_z {w = w16} (sfits_of c.limited.type_inv) ∙ (simp (to_z-of_z, sum) at c.limited.ensures) ∙ ap (clip_coeff 15) (simp (to_z-of_z, c.ranges.x) at c.rounded.ensures)
