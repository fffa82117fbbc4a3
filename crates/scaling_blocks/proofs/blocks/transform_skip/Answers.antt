-- `scaling_blocks::blocks::transform_skip` meets its contract: refused as the ladder says, else what was written and counted is what the definition says.
use mathlib.Core.Path.{◌≡◌, sym, ap, ◌∙◌}
use mathlib.Core.List.{map}
use native.Mathlib.Omega.{arith}
use lib.ListN.{length}
use Rattle.std.proofs.Common.{rules, Err}
use Rattle.std.proofs.lemmas.List.{length-map}
use Prim.Native.Nat.{◌*◌}
use Rattle.h265.specs.Range.{log2_size, transform_range}
use Rattle.h265.specs.Scaling.{scaled_at}
use Rattle.h265.specs.TransformSkip.{ts_shift, skipped_at}
use Rattle.refusal.specs.Outcome.{answer, outcome}
use Rattle.parameters.specs.declared.TransformSkipParams.{TransformSkipParams}
use Rattle.parameters.specs.Answers.{no_transform_skip}
use Rattle.parameters.specs.Parameters.{transform_skip_of}
use Rattle.scaling_values.specs.Given.{list_of, entries_of}
use Rattle.scaling_blocks.specs.Blocks.{transform_skipped, not_refused, block_answer}
use Rattle.scaling_blocks.proofs.BlockLaws.{Ready, block_ready, ready_rounds, passed_params, skip_ok, scaled_within, block_told, block_refused_lem}
use Rattle.scaling_blocks.proofs.WorkLaws.{skip_counted, coefficients_of_lem}
use Rattle.scaling_blocks.proofs.blocks.transform_skip.Goals as goal
use Rattle.scaling_blocks.proofs.blocks.transform_skip.Goals.{In_ok-block_refused, After-unwrap-by}

-- the ladder was passed
passed : (g : _) → (c : In_ok-block_refused g)
    → let a = c.args in not_refused ≡ block_answer g.R.Residual.NARROW a.n a.precision.bit_depth a.precision.extended (entries_of (list_of a.list)) (length a.levels.now) (length a.out.now)
passed g c = rw (c.NARROW.ensures, c.len.ensures) at (sym (ap answer c.in_ok-block_refused.was) ∙ c.block_refused.ensures)

-- behind the ladder no number is refused
pub unwrap-by-requires : goal.unwrap-by-requires
unwrap-by-requires g c =
    let a = c.args in
    skip_ok g.R.Residual.NARROW a.n a.qp_prime.0 a.precision.bit_depth a.precision.extended (entries_of (list_of a.list)) (length a.levels.now) (length a.out.now) c.transform_skip_params.result
    (passed g (goal.at.unwrap-by-requires g c).In_ok-block_refused) c.transform_skip_params.ensures

-- the numbers are the block's
ready : (g : _) → (c : After-unwrap-by g)
    → let a = c.args in Ready g.R.Residual.NARROW a.n a.qp_prime.0 a.precision.bit_depth a.precision.extended (entries_of (list_of a.list)) (length a.levels.now) (length a.out.now) c.unwrap-by.result
ready g c =
    let a = c.args in
    block_ready g.R.Residual.NARROW a.n a.qp_prime.0 a.precision.bit_depth a.precision.extended (entries_of (list_of a.list)) (length a.levels.now) (length a.out.now) c.unwrap-by.result
    (ap (outcome no_transform_skip) (sym c.unwrap-by.ensures) ∙ c.transform_skip_params.ensures
    ∙ passed_params g.R.Residual.NARROW a.n a.qp_prime.0 a.precision.bit_depth a.precision.extended (entries_of (list_of a.list)) (length a.levels.now) (length a.out.now)
    (passed g (goal.at.After-unwrap-by g c).In_ok-block_refused))

pub overflow_mul-n : goal.overflow_mul-n
overflow_mul-n g c = omega (arith, (ready g (goal.at.overflow_mul-n g c).After-unwrap-by).square)

pub skip_block-requires : goal.skip_block-requires
skip_block-requires g c =
    let a = c.args in
    let r = ready g (goal.at.skip_block-requires g c).After-unwrap-by in
    record {
      skippable = r.skippable;
      count_in_bounds = omega (arith, c.scale-limited.auto.out, r.room.places);
      coefficients =
          coefficients_of_lem (a.n * a.n) (scaled_at (list_of a.list) a.n a.precision.bit_depth a.precision.extended a.qp_prime.0 a.levels.now) (map g.R.Residual.reads a.out.now) c.scale-limited.ensures.out
          (scaled_within (list_of a.list) a.n a.qp_prime.0 a.precision.bit_depth a.precision.extended a.levels.now r.known);
      rounds = ready_rounds r;
    }

pub returns : goal.returns
unfolding transform_skipped skipped_at transform_skip_of
returns g c =
    let a = c.args in
    let r = ready g (goal.at.returns g c).After-unwrap-by in
    block_told g.R.Residual.NARROW (list_of a.list) a.n a.qp_prime.0 a.precision.bit_depth a.precision.extended a.levels.now (map g.R.Residual.reads a.out.now)
    (skipped_at (list_of a.list) a.n a.precision.bit_depth a.precision.extended a.qp_prime.0 a.levels.now)
    (rw (length-map a.out.now g.R.Residual.reads) (passed g (goal.at.returns g c).In_ok-block_refused))
    (skip_counted c.scale-limited.ensures (ts_shift (transform_range a.precision.bit_depth a.precision.extended) a.precision.bit_depth (log2_size a.n))
    (rw (ap (λ (p : TransformSkipParams). p.tr_shift) r.is) at c.skip_block.ensures))

pub returns-in_err-block_refused : goal.returns-in_err-block_refused
unfolding transform_skipped
returns-in_err-block_refused g c =
    let a = c.args in
    let told : c.from_residual.result ≡ Err c.in_err-block_refused.field-0.0 = search rules in
    rw told
    (block_refused_lem g.R.Residual.NARROW (list_of a.list) a.n a.qp_prime.0 a.precision.bit_depth a.precision.extended a.levels.now (map g.R.Residual.reads a.out.now)
    (skipped_at (list_of a.list) a.n a.precision.bit_depth a.precision.extended a.qp_prime.0 a.levels.now) c.in_err-block_refused.field-0.0
    (rw (length-map a.out.now g.R.Residual.reads) (rw (c.NARROW.ensures, c.len.ensures) at (sym (ap answer c.in_err-block_refused.was) ∙ c.block_refused.ensures))))
