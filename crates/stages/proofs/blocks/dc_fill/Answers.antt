-- `stages::blocks::dc_fill` meets its contract: both sums are 64 times the one value that is not zero.
use mathlib.Core.Path.{◌≡◌, sym, ap, ◌∙◌, subst}
use native.Mathlib.Omega.{arith}
use lib.IntN.{ℤ, pos, ◌*ℤ◌}
use lib.ListN.{get_or}
use mir.Syntax.{w16, w32}
use mir.Val.{SFits}
use mir.Facts.{to_z-of_z, sfits_widen}
use borrow.Author.Rules.{sfits_of}
use Rattle.std.specs.Prelude.{map}
use Rattle.std.proofs.lemmas.List.{length-map}
use Rattle.integers.specs.Shift.{round_shift}
use Rattle.integers.proofs.BoundLaws.{within_fits, within_le}
use Rattle.h265.specs.Range.{clip_coeff}
use Rattle.stages.proofs.FinishLaws.{read_value}
use Rattle.stages.proofs.PlainLaws.{first_inside, first_fits, times_64, dc_result}
use Rattle.stages.proofs.blocks.dc_fill.Goals as goal
use Rattle.stages.proofs.blocks.dc_fill.Goals.{After-number}

module _ (g : _) (c : After-number g) where
  first : c.number.result ≡ get_or (map g.V.Output.value c.args.coeff.now) 0 (pos 0)
  first =
      c.number.ensures
      ∙ read_value g.V.Output.value c.args.coeff.now 0 (omega (arith, first_inside c.requires.0 c.requires.2, length-map c.args.coeff.now g.V.Output.value)) c.index-coeff-0.is

  short : SFits w16 c.number.result
  short = subst (λ (x : ℤ). SFits w16 x) (sym first) (first_fits c.requires.0 c.requires.2)

  product : SFits w32 (pos 64 *ℤ c.number.result)
  product = within_fits tt (times_64 short)

pub clipped-g-requires : goal.clipped-g-requires
clipped-g-requires g c = simp (to_z-of_z, sfits_widen {w' = w32} tt (short g c), product g c) (within_le (omega arith) (times_64 (short g c)))

pub returns : goal.returns
returns g c =
    let a = (goal.at.returns g c).After-number in
    let clip : c.clipped-g.result ≡ clip_coeff 15 (round_shift (pos 64 *ℤ c.number.result) 7) =
    simp (to_z-of_z, sfits_widen {w' = w32} tt (short g a), product g a) at c.clipped-g.ensures in
    let fits : SFits w16 c.clipped-g.result = sfits_of c.clipped-g.type_inv in
    let second : SFits w32 (pos 64 *ℤ c.clipped-g.result) = within_fits tt (times_64 fits) in
    let round : c.rounded.result ≡ round_shift (pos 64 *ℤ c.clipped-g.result) c.args.s =
    simp (to_z-of_z, fits, sfits_widen {w' = w32} tt fits, second) at c.rounded.ensures in
    dc_result c.args.n c.args.s _ c.requires.0 c.requires.4 _ _
    (c.of.ensures ∙ ap (λ (x : ℤ). g.V.Output.made x) (to_z-of_z {w = w32} (sfits_of c.rounded.type_inv) ∙ round)
    ∙ g.met.V.Sample.unlimited c.args.s _ c.requires.3 c.requires.2.most (within_le (omega arith) (times_64 fits))
    ∙ ap (λ (z : ℤ). round_shift (pos 64 *ℤ z) c.args.s) (clip ∙ ap (λ (z : ℤ). clip_coeff 15 (round_shift (pos 64 *ℤ z) 7)) (first g a)))
    c.fill.ensures
