-- `list_blocks::dequantize_by_number` meets its contract: refused where its list is, else the library's block with that list.
use mathlib.Core.Path.{◌≡◌}
use mathlib.Core.List.{map}
use Rattle.std.proofs.Common.{rules, Err}
use Rattle.std.proofs.lemmas.List.{length-map}
use Rattle.list_places.specs.Table.{stream_of, short}
use Rattle.list_blocks.specs.Scale.{Block, block}
use Rattle.list_blocks.specs.Scale.Work.{coefficients}
use Rattle.list_blocks.proofs.ScaleLaws.{scale_refused, scale_done}
use Rattle.list_blocks.proofs.dequantize_by_number.Goals as goal
use Rattle.list_blocks.proofs.dequantize_by_number.Goals.{Start}

abbrev asked : (g : _) → Start g → Block
asked g c = let a = c.args in block coefficients g.R.Residual.NARROW a.n a.qp_prime.0 a.precision.bit_depth a.precision.extended a.levels.now

pub returns-in_err-list : goal.returns-in_err-list
returns-in_err-list g c =
    let a = c.args in
    let told : c.from_residual.result ≡ Err c.in_err-list.field-0.0 = search rules in
    rw told
    (scale_refused (short a.table.now) a.stream (stream_of a.table.now a.stream) a.number (asked g (goal.at.returns-in_err-list g c).Start) (map g.R.Residual.reads a.out.now)
    (rw (length-map a.out.now g.R.Residual.reads) c.in_err-list.ensures))

pub returns : goal.returns
returns g c =
    let a = c.args in
    scale_done (short a.table.now) a.stream (stream_of a.table.now a.stream) a.number (asked g (goal.at.returns g c).Start) (map g.R.Residual.reads a.out.now)
    (rw (length-map a.out.now g.R.Residual.reads) c.in_ok-list.ensures) c.dequantize.ensures
