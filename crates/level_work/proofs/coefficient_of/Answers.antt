-- `level_work::coefficient_of` meets its contract: the size and the depth are ones that scaling takes.
use mathlib.Core.Path.{◌≡◌, sym, ap, ◌∙◌}
use lib.IntN.{ℤ}
use mir.Facts.{to_z-of_z}
use Rattle.refusal.specs.Outcome.{outcome}
use Rattle.scaling.specs.Answers.{no_level}
use Rattle.scaling.specs.Level.{scaled_level}
use Rattle.level_work.proofs.ScaledLaws.{scaled_ok, level_scaled}
use Rattle.level_work.proofs.coefficient_of.Goals as goal
use Rattle.level_work.proofs.coefficient_of.Goals.{After-scale_level}

-- what scaling answers, for the level as given
answered : (c : After-scale_level) → outcome no_level c.scale_level.result ≡ scaled_level c.args.level c.factor_of-m.result c.args.n c.args.source.qp_prime.0 c.args.precision.bit_depth c.args.precision.extended
answered c =
    c.scale_level.ensures
    ∙ ap (λ (v : ℤ). scaled_level v c.factor_of-m.result c.args.n c.args.source.qp_prime.0 c.args.precision.bit_depth c.args.precision.extended) (to_z-of_z c.ranges.level)

pub unwrap-requires : goal.unwrap-requires
unwrap-requires c =
    scaled_ok c.args.source c.args.n c.args.precision.bit_depth c.args.precision.extended c.args.index c.args.level c.requires.0 c.requires.1 c.factor_of-m.result c.factor_of-m.ensures
    c.scale_level.result (answered c)

pub returns : goal.returns
returns c =
    level_scaled c.args.source c.args.n c.args.precision.bit_depth c.args.precision.extended c.args.index c.args.level c.requires.0 c.requires.1 c.factor_of-m.result c.factor_of-m.ensures
    c.unwrap.result (ap (outcome no_level) (sym c.unwrap.ensures) ∙ answered (goal.at.returns c).After-scale_level)
