-- `scaling_blocks::blocks::dequantize` meets its contract: refused as the ladder says, else what was written and counted is what the definition says.
use mathlib.Core.Path.{◌≡◌, sym, ap, ◌∙◌}
use mathlib.Core.List.{map}
use Rattle.std.proofs.Common.{rules, Err}
use Rattle.std.proofs.lemmas.List.{length-map}
use Rattle.h265.specs.Scaling.{scaled_at}
use Rattle.refusal.specs.Outcome.{answer}
use Rattle.scaling_values.specs.Given.{list_of}
use Rattle.scaling_blocks.specs.Blocks.{dequantized}
use Rattle.scaling_blocks.proofs.BlockLaws.{block_told, block_refused_lem}
use Rattle.scaling_blocks.proofs.blocks.dequantize.Goals as goal
use Rattle.scaling_blocks.proofs.blocks.dequantize.Goals.{In_err-block_refused}

pub returns : goal.returns
unfolding dequantized
returns g c =
    let a = c.args in
    block_told g.R.Residual.NARROW (list_of a.list) a.n a.qp_prime.0 a.precision.bit_depth a.precision.extended a.levels.now (map g.R.Residual.reads a.out.now)
    (scaled_at (list_of a.list) a.n a.precision.bit_depth a.precision.extended a.qp_prime.0 a.levels.now)
    (rw (length-map a.out.now g.R.Residual.reads) (rw (c.NARROW.ensures, c.len.ensures) at (sym (ap answer c.in_ok-block_refused.was) ∙ c.block_refused.ensures))) c.scale.ensures

pub returns-in_err-block_refused : goal.returns-in_err-block_refused
unfolding dequantized
returns-in_err-block_refused g c =
    let a = c.args in
    let told : c.from_residual.result ≡ Err c.in_err-block_refused.field-0.0 = search rules in
    rw told
    (block_refused_lem g.R.Residual.NARROW (list_of a.list) a.n a.qp_prime.0 a.precision.bit_depth a.precision.extended a.levels.now (map g.R.Residual.reads a.out.now)
    (scaled_at (list_of a.list) a.n a.precision.bit_depth a.precision.extended a.qp_prime.0 a.levels.now) c.in_err-block_refused.field-0.0
    (rw (length-map a.out.now g.R.Residual.reads) (rw (c.NARROW.ensures, c.len.ensures) at (sym (ap answer c.in_err-block_refused.was) ∙ c.block_refused.ensures))))
