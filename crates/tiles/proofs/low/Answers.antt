-- `tiles::low` meets its contract: what the high part leaves fits 32 bits, and limited twice it is the low part.
use mathlib.Core.Path.{ap, ◌∙◌}
use Prim.Native.Nat.{◌*◌}
use native.Mathlib.Omega.{arith}
use borrow.Author.Rules.{sfits_of}
use lib.IntN.{ℤ, ◌*ℤ◌}
use lib.Pow.{pow_mono}
use mir.Syntax.{w16, w32}
use mir.Facts.{to_z-of_z}
use Rattle.integers.specs.Shift.{pow2}
use Rattle.integers.proofs.BoundLaws.{within_mul, within_pos, within_fits, within_sfits, within_eq}
use Rattle.h265.specs.Range.{clip_coeff}
use Rattle.vectors.proofs.LanesLaws.{lanes_fit}
use Rattle.tiles.proofs.PartsLaws.{rest_lanes, low_lane}
use Rattle.tiles.proofs.low.Goals as goal

pub times-requires : goal.times-requires
times-requires c = (
  omega (arith, c.requires.0),
  λ j. within_fits {b = 128 * 32768} tt (within_mul {a = 128} (within_pos (pow_mono {j = 7} c.requires.0)) (within_eq (c.wide.ensures j) (within_sfits (lanes_fit w16 _ c.well_formed.1.0 j)))),
)

pub minus-requires : goal.minus-requires
minus-requires c =
    rest_lanes c.args.x.v c.args.h.v c.times.result.v c.requires.0 c.args.x.four c.times.result.four (lanes_fit w32 _ c.well_formed.0) c.requires.1
    (λ j. c.times.ensures j ∙ ap (λ (z : ℤ). pow2 c.args.k *ℤ z) (c.wide.ensures j))

pub returns : goal.returns
returns c = λ j l.
    low_lane _ c.requires.0 (c.requires.1 j l) (c.times.ensures j ∙ ap (λ (z : ℤ). pow2 c.args.k *ℤ z) (c.wide.ensures j))
    (c.limited-rest.ensures j l ∙ ap (clip_coeff 15) (c.minus.ensures j)) (to_z-of_z {w = w16} (sfits_of c.low_most.type_inv) ∙ c.low_most.ensures.0) (c.between.ensures j l)
