-- `scaling_lists_put::codes::put_full` meets its contract: DC where the size has one, and the entries behind it, at the positions of the size.
use mathlib.Core.Path.{sym, ◌∙◌}
use Prim.Native.Nat.{◌/◌}
use native.Mathlib.Omega.{arith}
use lib.ListN.{length}
use Rattle.scaling_lists_codes.specs.Syntax.{size_id}
use Rattle.scaling_lists.specs.Work.{Positions}
use Rattle.scaling_lists.proofs.ListLaws.{positions_inside}
use Rattle.scaling_lists_put.specs.Lists.{factor_list}
use Rattle.scaling_lists_put.proofs.PutLaws.{full_dc, full_plain, deltas_whole}
use Rattle.scaling_lists_put.proofs.codes.put_full.Goals as goal
use Rattle.scaling_lists_put.proofs.codes.put_full.Goals.{After-positions-scan}

-- the positions lie in the list
inside : (c : After-positions-scan) → Positions c.positions-scan.result.now (length c.args.list.entries.now)
inside c = rw (c.positions-scan.ensures, c.args.list.whole) (positions_inside (c.args.j / 6))

pub put_entries-requires : goal.put_entries-requires
put_entries-requires c =
    let p = inside (goal.at.put_entries-requires c).After-positions-scan in
    (p, omega (arith, p.few, c.requires, c.put_difference-behind.ensures.bound))

pub put_entries-requires-2 : goal.put_entries-requires-2
put_entries-requires-2 c =
    let p = inside (goal.at.put_entries-requires-2 c).After-positions-scan in
    (p, omega (arith, p.few, c.requires))

pub returns-then-has_dc : goal.returns-then-has_dc
unfolding size_id
returns-then-has_dc c =
    let s = size_id c.args.j in
    full_dc s (factor_list c.args.list) (sym c.has_dc.ensures ∙ c.if-has_dc.true) c.put_difference-behind.ensures (deltas_whole s _ _ c.positions-scan.ensures c.put_entries.ensures)

pub returns : goal.returns
unfolding size_id
returns c =
    let s = size_id c.args.j in
    full_plain s (factor_list c.args.list) (sym c.has_dc.ensures ∙ c.if-has_dc.false) (deltas_whole s _ _ c.positions-scan.ensures c.put_entries-2.ensures)
