-- `stages_wide::parts::limited` meets its contract: `clamp` is the limit.
use mathlib.Core.Path.{◌∙◌}
use borrow.Author.Rules.{sfits_of}
use mir.Syntax.{w32}
use mir.Val.{SFits}
use mir.Facts.{to_z-of_z}
use Rattle.h265.specs.Range.{coeff_min, coeff_max, clip_coeff}
use Rattle.h265.proofs.RangeLaws.{coeff_min-≤-coeff_max}
use Rattle.integers.proofs.ClipLaws.{clamp_clips}
use Rattle.stages_wide.proofs.parts.limited.Goals as goal
use Rattle.stages_wide.proofs.parts.limited.Goals.{After-most}

module _ (c : After-most) where
  low_fits : SFits w32 c.least.result
  low_fits = sfits_of c.least.type_inv

  high_fits : SFits w32 c.most.result
  high_fits = sfits_of c.most.type_inv

pub clamp-requires : goal.clamp-requires
clamp-requires c = simp (to_z-of_z, low_fits c, high_fits c) (rw (c.least.ensures, c.most.ensures) (coeff_min-≤-coeff_max c.args.range))

pub returns : goal.returns
unfolding clip_coeff
returns c =
    let s = (goal.at.returns c).After-most in
    let fits : SFits w32 c.clamp.result = record { sfits = c.clamp.type_inv } in
    simp (to_z-of_z, fits) (simp (to_z-of_z, c.ranges.x, low_fits s, high_fits s) at c.clamp.ensures.value
    ∙ rw (c.least.ensures, c.most.ensures) (clamp_clips (coeff_min c.args.range) (coeff_max c.args.range) c.args.x (coeff_min-≤-coeff_max c.args.range)))
