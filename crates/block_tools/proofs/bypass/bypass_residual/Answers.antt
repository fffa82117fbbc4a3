-- `block_tools::bypass::bypass_residual` meets its contract: refused where its ladder is, else the levels are copied and modified where they stand.
use mathlib.Core.Path.{sym, ap, ◌∙◌}
use native.Mathlib.Omega.{arith}
use Rattle.h265.proofs.RangeLaws.{size_square}
use Rattle.refusal.specs.Outcome.{answer}
use Rattle.block_tool_work.proofs.ResidualLaws.{Passes, bypass_passed, bypass_block, bypass_modified}
use Rattle.block_tools.proofs.bypass.bypass_residual.Goals as goal
use Rattle.block_tools.proofs.bypass.bypass_residual.Goals.{In_ok-bypass_checked}

-- no row of the ladder holds
passes : (c : In_ok-bypass_checked) → let a = c.args in Passes a.accumulate a.rotate a.n a.precision.bit_depth a.precision.extended a.levels.now a.out.now
passes c =
    let k = c in
    let a = k.args in
    bypass_passed a.accumulate a.rotate a.n a.precision.bit_depth a.precision.extended a.levels.now a.out.now (sym (ap answer c.in_ok-bypass_checked.was) ∙ k.bypass_checked.ensures)

pub overflow_mul-n : goal.overflow_mul-n
overflow_mul-n c = omega (arith, size_square c.args.n (passes c).size)

pub copy_levels-requires : goal.copy_levels-requires
copy_levels-requires c = let p = passes (goal.at.copy_levels-requires c).In_ok-bypass_checked in (p.input, p.room)

pub modify_block-requires : goal.modify_block-requires
modify_block-requires c =
    let l = c in
    let e = l in
    let a = e.args in
    bypass_block a.accumulate a.rotate a.n a.precision.bit_depth a.precision.extended a.levels.now a.out.now (passes (goal.at.modify_block-requires c).In_ok-bypass_checked) l.copy_levels.ensures

pub returns : goal.returns
returns c =
    let m = c in
    let l = m in
    let e = l in
    let a = e.args in
    bypass_modified a.accumulate a.rotate a.n a.precision.bit_depth a.precision.extended a.levels.now a.out.now (passes (goal.at.returns c).In_ok-bypass_checked) l.copy_levels.ensures m.modify_block.ensures
