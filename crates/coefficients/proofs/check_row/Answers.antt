-- `coefficients::check_row` meets its contract. The loop's invariant: no coefficient before the column lies outside the range.
use mathlib.Core.Path.{◌≡◌, sym, ◌∙◌}
use native.Mathlib.Omega.{arith}
use borrow.Author.Tests.{lt-ltb, le-ltb}
use lib.IntN.{pos}
use lib.ListN.{get_or, length}
use mir.Syntax.{w32}
use mir.Val.{SFits}
use Rattle.integers.specs.Search.{first_where}
use Rattle.integers.proofs.MachineLaws.{round_trip}
use Rattle.integers.proofs.SearchLaws.{first_where-none, first_where_found}
use Rattle.h265.specs.Range.{outside_range}
use Rattle.coefficients.proofs.check_row.Goals as goal
use Rattle.coefficients.proofs.check_row.Goals.{After-is_outside}

value_fits : (c : After-is_outside) → SFits w32 (get_or c.args.row.now c.loop-column.column (pos 0))
value_fits c = record { sfits = omega arith }

-- what the call says of the coefficient that it was given
tested : (c : After-is_outside) → c.is_outside.result ≡ outside_range c.args.range (get_or c.args.row.now c.loop-column.column (pos 0))
tested c = rw (round_trip (value_fits c)) at c.is_outside.ensures

pub returns-then-is_outside : goal.returns-then-is_outside
returns-then-is_outside c =
    let t = (goal.at.returns-then-is_outside c).After-is_outside in
    let xs = t.args.row.now in
    let at = t.loop-column.column in
    let first : first_where (length xs) (λ i. outside_range t.args.range (get_or xs i (pos 0))) ≡ at =
    first_where_found (length xs) at (omega arith) t.loop-column.invariant (sym (tested t) ∙ c.if-is_outside.true) in
    rw first (lt-ltb at (length xs) (omega arith), rw (round_trip (value_fits t)) at c.outside_refusal.ensures)

pub returns : goal.returns
returns c =
    let xs = c.args.row.now in
    rw (first_where-none (length xs) (omega arith) c.loop-column.invariant) (le-ltb (length xs) (length xs) (omega arith))
