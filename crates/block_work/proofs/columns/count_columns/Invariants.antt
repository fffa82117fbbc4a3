-- `block_work::columns::count_columns` meets its contract: the columns passed, from the last one leftwards, have zeros only.
use mathlib.Core.Path.{◌≡◌}
use Rattle.block_rules.specs.Columns.{last_where, column_used, column_count}
use Rattle.block_work.proofs.columns.count_columns.Given as goal

abbrev pub invariant-loop-c : goal.invariant-loop-c
invariant-loop-c l = column_count l.n l.coeff ≡ last_where l.c (column_used l.n l.coeff)
