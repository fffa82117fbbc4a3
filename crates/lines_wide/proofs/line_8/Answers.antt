-- `lines_wide::line_8` meets its contract: even rows are the 4-point DCT's, and the right half of the matrix mirrors the left, odd rows
-- with their sign changed.
use native.Mathlib.Omega.{arith}
use Rattle.lines_wide.proofs.HalvesLaws.{EvenAndOdd, low_fits, high_fits, outputs_8}
use Rattle.lines_wide.proofs.line_8.Goals as goal
use Rattle.lines_wide.proofs.line_8.Goals.{After-odd_8-o}

halves : (c : After-odd_8-o) → EvenAndOdd c.args.x c.dct_4-e.result c.odd_8-o.result
halves c = record { all = c.requires; even = c.dct_4-e.ensures; odd = c.odd_8-o.ensures }

pub overflow_add-result : goal.overflow_add-result
overflow_add-result c = low_fits (halves (goal.at.overflow_add-result c).After-odd_8-o) _ (omega arith)

pub overflow_add-result-2 : goal.overflow_add-result-2
overflow_add-result-2 c = low_fits (halves (goal.at.overflow_add-result-2 c).After-odd_8-o) _ (omega arith)

pub overflow_add-result-3 : goal.overflow_add-result-3
overflow_add-result-3 c = low_fits (halves (goal.at.overflow_add-result-3 c).After-odd_8-o) _ (omega arith)

pub overflow_add-result-4 : goal.overflow_add-result-4
overflow_add-result-4 c = low_fits (halves (goal.at.overflow_add-result-4 c).After-odd_8-o) _ (omega arith)

pub overflow_sub-result : goal.overflow_sub-result
overflow_sub-result c = high_fits (halves (goal.at.overflow_sub-result c).After-odd_8-o) _ (omega arith)

pub overflow_sub-result-2 : goal.overflow_sub-result-2
overflow_sub-result-2 c = high_fits (halves (goal.at.overflow_sub-result-2 c).After-odd_8-o) _ (omega arith)

pub overflow_sub-result-3 : goal.overflow_sub-result-3
overflow_sub-result-3 c = high_fits (halves (goal.at.overflow_sub-result-3 c).After-odd_8-o) _ (omega arith)

pub overflow_sub-result-4 : goal.overflow_sub-result-4
overflow_sub-result-4 c = high_fits (halves (goal.at.overflow_sub-result-4 c).After-odd_8-o) _ (omega arith)

pub returns : goal.returns
returns c = outputs_8 (halves (goal.at.returns c).After-odd_8-o)
