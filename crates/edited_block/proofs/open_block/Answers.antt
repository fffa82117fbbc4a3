-- `edited_block::open_block` meets its contract: an opening whose source is nothing.
use mathlib.Core.Path.{subst}
use Rattle.block_rules.specs.declared.Source.{Source}
use Rattle.block_rules.specs.Edit.{buffers, opened, Opens}
use Rattle.block_rules.specs.Opening.{opened_as}
use Rattle.edited_block.proofs.open_block.Goals as goal

pub returns : goal.returns
unfolding opened_as
returns c =
    let f = c in
    let z = f in
    let s = z in
    subst (λ (from : Source). Opens (opened s.args.kind s.args.n s.args.precision.bit_depth s.args.precision.extended from (buffers s.args.coeff.now s.args.inter.now s.args.residual.now))
    f.open_from.result f.open_from.new.inter f.open_from.new.residual) z.zero_source.ensures f.open_from.ensures
