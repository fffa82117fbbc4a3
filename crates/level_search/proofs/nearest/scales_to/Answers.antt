-- `level_search::nearest::scales_to` meets its contract: the bits are equal exactly where the numbers are.
use mathlib.Core.Path.{ap, ◌∙◌}
use lib.IntN.{ℤ}
use Rattle.integers.proofs.MachineLaws.{round_trip}
use Rattle.least_level.specs.Level.{equal}
use Rattle.level_search.proofs.NearestLaws.{scaled_fits, equal_bits}
use Rattle.level_search.proofs.nearest.scales_to.Goals as goal

pub returns : goal.returns
returns c =
    let d = c in
    let s = d in
    let e = rw (round_trip s.ranges.level) at d.scaled_listed-scaled.ensures.value in
    equal_bits d.scaled_listed-scaled.result.value s.args.x (scaled_fits s.args.m s.args.level s.requires e) s.ranges.x
    ∙ ap (λ (z : ℤ). equal z s.args.x) e
