-- `scaling_blocks::each::flat_block` meets its contract: behind the ladder the numbers are there, and they are the block's; without a list every m is 16.
use mathlib.Core.Path.{◌≡◌, sym, ap, subst, ◌∙◌}
use lib.ListN.{length}
use Rattle.h265.specs.Range.{log2_size}
use Rattle.h265.specs.ScalingFactor.ScalingList.{flat}
use Rattle.refusal.specs.Outcome.{outcome}
use Rattle.parameters.specs.declared.DequantParams.{DequantParams}
use Rattle.parameters.specs.Answers.{no_dequant}
use Rattle.parameters.specs.Parameters.{dequant_of, transform_skip_of}
use Rattle.scaling_blocks.specs.Blocks.{output_width}
use Rattle.scaling_blocks.specs.Each.{Scalable}
use Rattle.scaling_blocks.proofs.BlockLaws.{Ready, ladder_ready, ready_scalable, numbers_is, numbers_ok, scaled_counted}
use native.Mathlib.Omega.{arith}
use Rattle.scaling_values.proofs.FlatLaws.{flat_for_short, flat_for_fits, flat_counted}
use Rattle.scaling_blocks.proofs.WorkLaws.{flat_listed}
use Rattle.scaling_blocks.proofs.each.flat_block.Goals as goal
use Rattle.scaling_blocks.proofs.each.flat_block.Goals.{Start, After-unwrap-by}

ready : (g : _) → (c : Start g)
    → let a = c.args in Ready g.R.Residual.NARROW a.n a.qp_prime.0 a.precision.bit_depth a.precision.extended 64 (length a.levels.now) (length a.out.now) (transform_skip_of (log2_size a.n) a.qp_prime.0 a.precision.bit_depth a.precision.extended)
ready g c = let a = c.args in ladder_ready g.R.Residual.NARROW a.n a.qp_prime.0 a.precision.bit_depth a.precision.extended 64 (length a.levels.now) (length a.out.now) c.requires

pub unwrap-by-requires : goal.unwrap-by-requires
unwrap-by-requires g c =
    let a = c.args in
    numbers_ok g.R.Residual.NARROW a.n a.qp_prime.0 a.precision.bit_depth a.precision.extended 64 (length a.levels.now) (length a.out.now) c.dequant_params.result c.requires c.dequant_params.ensures

by_is : (g : _) → (c : After-unwrap-by g) → let a = c.args in c.unwrap-by.result ≡ dequant_of (log2_size a.n) a.qp_prime.0 a.precision.bit_depth a.precision.extended
by_is g c =
    let a = c.args in
    numbers_is g.R.Residual.NARROW a.n a.qp_prime.0 a.precision.bit_depth a.precision.extended 64 (length a.levels.now) (length a.out.now) c.unwrap-by.result c.requires
    (ap (outcome no_dequant) (sym c.unwrap-by.ensures) ∙ c.dequant_params.ensures)

scalable : (g : _) → (c : After-unwrap-by g) → Scalable (output_width g.R.Residual.NARROW) c.unwrap-by.result
unfolding transform_skip_of
scalable g c =
    subst (λ (p : DequantParams). Scalable (output_width g.R.Residual.NARROW) p) (sym (by_is g c)) (ready_scalable g.R.Residual.NARROW (ready g (goal.at.After-unwrap-by g c).Start))

pub overflow_mul-n : goal.overflow_mul-n
overflow_mul-n g c = omega (arith, (ready g (goal.at.overflow_mul-n g c).Start).square)

pub flat_params-requires : goal.flat_params-requires
flat_params-requires g c = let s = scalable g (goal.at.flat_params-requires g c).After-unwrap-by in record { manageable = s.manageable; regular = s.regular }

pub scale_flat-requires : goal.scale_flat-requires
scale_flat-requires g c =
    let r = ready g (goal.at.scale_flat-requires g c).Start in
    let s = scalable g (goal.at.scale_flat-requires g c).After-unwrap-by in
    record {
      short = flat_for_short s.regular c.flat_params.ensures s.manageable;
      room = r.room;
      count_bound = r.square;
      fits = flat_for_fits s.regular c.flat_params.ensures s.ends;
    }

pub returns : goal.returns
returns g c =
    let a = c.args in
    let s = scalable g (goal.at.returns g c).After-unwrap-by in
    scaled_counted (flat) a.n a.qp_prime.0 a.precision.bit_depth a.precision.extended a.levels.now (by_is g (goal.at.returns g c).After-unwrap-by)
    (flat_listed s.regular a.n a.levels.now (flat_counted s.regular c.flat_params.ensures a.levels.now c.scale_flat.ensures))
