-- `scaling_lists_put::list::put_lists` meets its contract: in the end all lists are written.
use mathlib.Core.Path.{◌≡◌}
use native.Mathlib.Omega.{arith}
use Rattle.text.proofs.WroteLaws.{wrote_none}
use Rattle.scaling_lists_written.specs.Written.{written_up_to, written_lists}
use Rattle.scaling_lists_put.proofs.PutLaws.{lists_more}
use Rattle.scaling_lists_put.proofs.list.put_lists.Goals as goal

pub loop-j-init : goal.loop-j-init
unfolding written_up_to
loop-j-init c = (omega arith, wrote_none _ 0)

pub loop-j-preserved : goal.loop-j-preserved
loop-j-preserved c =
    let w = c.put_list-at.ensures in
    (omega (arith, w.bound, c.loop-j.invariant.0), lists_more _ _ c.loop-j.j c.loop-j.invariant.1 w.wrote)

pub returns : goal.returns
unfolding written_lists
returns c =
    let e : c.loop-j.j ≡ 20 = omega arith in
    record { wrote = rw e at c.loop-j.invariant.1; bound = omega (arith, c.loop-j.invariant.0) }
