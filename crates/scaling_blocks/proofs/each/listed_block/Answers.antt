-- `scaling_blocks::each::listed_block` meets its contract: behind the ladder the numbers are there, and they are the block's.
use mathlib.Core.Path.{sym, ap, subst, ◌∙◌}
use lib.ListN.{length}
use Rattle.h265.specs.Range.{log2_size}
use Rattle.h265.specs.ScalingFactor.ScalingList.{listed}
use Rattle.refusal.specs.Outcome.{outcome}
use Rattle.parameters.specs.declared.DequantParams.{DequantParams}
use Rattle.parameters.specs.Answers.{no_dequant}
use Rattle.parameters.specs.Parameters.{transform_skip_of}
use Rattle.scaling_blocks.specs.Blocks.{output_width}
use Rattle.scaling_blocks.specs.Each.{Scalable}
use Rattle.scaling_blocks.proofs.BlockLaws.{Ready, ladder_ready, ready_scalable, numbers_is, numbers_ok, scaled_counted}
use Rattle.scaling_blocks.proofs.each.listed_block.Goals as goal
use Rattle.scaling_blocks.proofs.each.listed_block.Goals.{Start, After-unwrap-by}

ready : (g : _) → (c : Start g)
    → let a = c.args in Ready g.R.Residual.NARROW a.n a.qp_prime.0 a.precision.bit_depth a.precision.extended (length a.list.now) (length a.levels.now) (length a.out.now) (transform_skip_of (log2_size a.n) a.qp_prime.0 a.precision.bit_depth a.precision.extended)
ready g c = let a = c.args in ladder_ready g.R.Residual.NARROW a.n a.qp_prime.0 a.precision.bit_depth a.precision.extended (length a.list.now) (length a.levels.now) (length a.out.now) c.requires

pub unwrap-by-requires : goal.unwrap-by-requires
unwrap-by-requires g c =
    let a = c.args in
    numbers_ok g.R.Residual.NARROW a.n a.qp_prime.0 a.precision.bit_depth a.precision.extended (length a.list.now) (length a.levels.now) (length a.out.now) c.dequant_params.result c.requires c.dequant_params.ensures

scalable : (g : _) → (c : After-unwrap-by g) → Scalable (output_width g.R.Residual.NARROW) c.unwrap-by.result
unfolding transform_skip_of
scalable g c =
    let a = c.args in
    let by_is =
    numbers_is g.R.Residual.NARROW a.n a.qp_prime.0 a.precision.bit_depth a.precision.extended (length a.list.now) (length a.levels.now) (length a.out.now) c.unwrap-by.result c.requires
    (ap (outcome no_dequant) (sym c.unwrap-by.ensures) ∙ c.dequant_params.ensures)
    in
    subst (λ (p : DequantParams). Scalable (output_width g.R.Residual.NARROW) p) (sym by_is) (ready_scalable g.R.Residual.NARROW (ready g (goal.at.After-unwrap-by g c).Start))

pub scale_listed-requires : goal.scale_listed-requires
scale_listed-requires g c =
    let r = ready g (goal.at.scale_listed-requires g c).Start in
    record { scalable = scalable g (goal.at.scale_listed-requires g c).After-unwrap-by; room = r.room; whole_list = r.whole }

pub returns : goal.returns
returns g c =
    let a = c.args in
    scaled_counted (listed a.list.now a.dc) a.n a.qp_prime.0 a.precision.bit_depth a.precision.extended a.levels.now
    (numbers_is g.R.Residual.NARROW a.n a.qp_prime.0 a.precision.bit_depth a.precision.extended (length a.list.now) (length a.levels.now) (length a.out.now) c.unwrap-by.result c.requires
    (ap (outcome no_dequant) (sym c.unwrap-by.ensures) ∙ c.dequant_params.ensures)) c.scale_listed.ensures
