-- `tiles::limited` meets its contract: `clamp` is the limit.
use mathlib.Core.Path.{◌∙◌}
use mir.Syntax.{w16, w32}
use mir.Val.{SFits}
use mir.Facts.{to_z-of_z}
use Rattle.tiles.proofs.LimitLaws.{clamp_is, clip_short}
use Rattle.tiles.proofs.limited.Goals as goal

pub returns : goal.returns
returns c =
    let e = (simp (to_z-of_z, c.ranges.x) at c.clamp.ensures.value) ∙ clamp_is c.args.x in
    let fits : SFits w16 c.clamp.result = rw e (clip_short c.args.x) in
    let wide : SFits w32 c.clamp.result = record { sfits = c.clamp.type_inv } in
    simp (to_z-of_z, wide, fits) e
