-- `scaling_lists_writer::values::values_refused` meets its contract: one list after the other.
use mathlib.Core.Path.{◌≡◌, sym, ◌∙◌}
use native.Mathlib.Omega.{arith}
use Rattle.scaling_lists_written.proofs.SameLaws.{every-none, every_more}
use Rattle.scaling_lists_put.specs.Lists.{set_lists}
use Rattle.scaling_lists_writer.proofs.ValueLaws.{values_refused_lem, values_accepted}
use Rattle.scaling_lists_writer.proofs.values.values_refused.Goals as goal

pub loop-j-init : goal.loop-j-init
loop-j-init c = every-none _

pub returns-then-not-nonzero_list : goal.returns-then-not-nonzero_list
returns-then-not-nonzero_list c =
    let e = rw c.list.ensures at c.nonzero_list.ensures in
    values_refused_lem (set_lists c.args.set) c.loop-j.j c.loop-j-test.true (sym e ∙ c.if-not-nonzero_list.true)

pub loop-j-preserved : goal.loop-j-preserved
loop-j-preserved c =
    let e = rw c.list.ensures at c.nonzero_list.ensures in
    every_more c.loop-j.j _ c.loop-j.invariant (sym e ∙ c.if-not-nonzero_list.false)

pub returns : goal.returns
returns c =
    let e : c.loop-j.j ≡ 20 = omega arith in
    values_accepted (set_lists c.args.set) (rw e at c.loop-j.invariant)
