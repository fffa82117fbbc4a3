-- `scaling_lists_put::same::nearest` meets its contract: the first that is the same, else none.
use mathlib.Core.Path.{◌≡◌, sym, ap₂, ◌∙◌}
use Prim.Native.Nat.{◌-◌, ◌%◌}
use Rattle.integers.proofs.SearchLaws.{first_where-none, first_where_found}
use Rattle.scaling_lists_codes.specs.Syntax.{size_id}
use Rattle.scaling_lists_written.specs.Same.{same_list, list_at}
use Rattle.scaling_lists_written.specs.Written.{earlier, nearest}
use Rattle.scaling_lists_put.specs.Lists.{set_lists}
use Rattle.scaling_lists_put.proofs.same.nearest.Goals as goal
use Rattle.scaling_lists_put.proofs.same.nearest.Goals.{After-same_list}

-- what the comparison says of the list d before list j
compared : (c : After-same_list)
    → c.same_list.result ≡ same_list (size_id c.args.j) (list_at (set_lists c.args.set) c.args.j) (list_at (set_lists c.args.set) (c.args.j - 1 - c.loop-d.d))
compared c = c.same_list.ensures ∙ ap₂ (same_list (size_id c.args.j)) c.list.ensures c.list-in-loop-d.ensures

pub returns-then-same_list : goal.returns-then-same_list
unfolding nearest earlier
returns-then-same_list c =
    let e = compared (goal.at.returns-then-same_list c).After-same_list in
    (first_where_found (c.args.j % 6) c.loop-d.d c.loop-d-test.true c.loop-d.invariant (sym e ∙ c.if-same_list.true), c.loop-d-test.true)

pub returns : goal.returns
unfolding nearest earlier
returns c = first_where-none (c.args.j % 6) c.loop-d-test.false c.loop-d.invariant
