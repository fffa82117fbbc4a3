-- `scaling_blocks::each::skip_block` meets its contract: the element that is read is still a coefficient, and its residual fits the output.
use mathlib.Core.Path.{◌≡◌, ◌∙◌, ap, sym, subst}
use mathlib.Core.List.{map}
use native.Mathlib.Omega.{arith}
use borrow.Author.Rules.{sfits_of}
use lib.IntN.{ℤ, pos}
use lib.ListN.{get_or}
use mir.Syntax.{w32}
use mir.Val.{SFits}
use Rattle.std.proofs.lemmas.List.{length-map, get_or-map}
use Rattle.integers.proofs.MachineLaws.{round_trip}
use Rattle.integers.proofs.BoundLaws.{within_fits, within_eq}
use Rattle.integers.proofs.ListsLaws.{stored_none}
use Rattle.h265.specs.TransformSkip.{ts_residual}
use Rattle.scaling_values.specs.Work.{residual_at}
use Rattle.scaling_values.proofs.SkipLaws.{ts_add_within}
use Rattle.scaling_blocks.specs.Blocks.{output_width}
use Rattle.scaling_blocks.proofs.WorkLaws.{stored_rest, reads_more, residual_holds}
use Rattle.scaling_blocks.proofs.each.skip_block.Goals as goal
use Rattle.scaling_blocks.proofs.each.skip_block.Goals.{Start, After-value, After-skipped}

shift_fits : (g : _) → (c : Start g) → SFits w32 c.args.by.tr_shift
shift_fits g c = within_fits tt c.requires.skippable.shift

add_fits : (g : _) → (c : Start g) → SFits w32 c.args.by.tr_add
add_fits g c = within_fits tt (within_eq c.requires.skippable.add (ts_add_within c.args.by.tr_shift c.requires.skippable.shift))

pub loop-i-init : goal.loop-i-init
loop-i-init g c = stored_none

-- the coefficient that was read
read_fits : (g : _) → (c : After-value g) → SFits w32 c.value.result
read_fits g c = sfits_of c.value.type_inv

read_is : (g : _) → (c : After-value g) → c.value.result ≡ get_or (map g.R.Residual.reads c.args.out.now) c.loop-i.i (pos 0)
read_is g c =
    c.value.ensures.is
    ∙ ap g.R.Residual.reads c.index-out-i.is
    ∙ sym (get_or-map g.R.Residual.reads c.loop-i.out c.loop-i.i c.index-out-i.result (pos 0) (omega (arith, c.requires.count_in_bounds, c.loop-i.auto.out)))
    ∙ stored_rest c.loop-i.invariant c.loop-i.i (pos 0) (omega arith)

pub skipped-requires : goal.skipped-requires
skipped-requires g c =
    let v = (goal.at.skipped-requires g c).After-value in
    let s = (goal.at.skipped-requires g c).Start in
    rw (round_trip (read_fits g v), round_trip (add_fits g s), round_trip (shift_fits g s))
    (record {
      coefficient = within_eq (read_is g v) (c.requires.coefficients.at c.loop-i.i c.loop-i-test.true);
      shift = c.requires.skippable.shift;
      add = c.requires.skippable.add;
    })

residual_is : (g : _) → (c : After-skipped g) → c.skipped.result ≡ ts_residual c.args.by.tr_shift c.value.result
residual_is g c =
    rw (round_trip (shift_fits g (goal.at.After-skipped g c).Start), round_trip (read_fits g (goal.at.After-skipped g c).After-value)) at c.skipped.ensures

residual_at_is : (g : _) → (c : After-skipped g) → c.skipped.result ≡ residual_at c.args.by.tr_shift (map g.R.Residual.reads c.args.out.now) c.loop-i.i
unfolding residual_at
residual_at_is g c = residual_is g c ∙ ap (ts_residual c.args.by.tr_shift) (read_is g (goal.at.After-skipped g c).After-value)

result_fits : (g : _) → (c : After-skipped g) → SFits w32 c.skipped.result
result_fits g c = sfits_of c.skipped.type_inv

pub of-requires : goal.of-requires
of-requires g c =
    rw (round_trip (result_fits g c))
    (residual_holds g.R.Residual.NARROW c.requires.rounds
    (subst (λ (z : ℤ). SFits (output_width g.R.Residual.NARROW) z) (sym c.value.ensures.is) c.value.ensures.fits) (residual_is g c) (result_fits g c))

pub loop-i-preserved : goal.loop-i-preserved
loop-i-preserved g c =
    let s = (goal.at.loop-i-preserved g c).After-skipped in
    reads_more g.R.Residual.reads c.loop-i.out c.loop-i.invariant (rw (length-map c.args.out.now g.R.Residual.reads) (omega (arith, c.requires.count_in_bounds)))
    (c.of.ensures ∙ round_trip (result_fits g s) ∙ residual_at_is g s)
