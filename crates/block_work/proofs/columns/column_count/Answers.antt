-- `block_work::columns::column_count` meets its contract: a block of size 4 is one of size n.
use mathlib.Core.Path.{◌≡◌, sym, subst}
use Prim.Native.Nat.{ℕ, ◌*◌, ◌≤◌}
use lib.Dec.{T}
use lib.ListN.{length}
use Rattle.h265.specs.Range.{is_size}
use Rattle.block_rules.specs.Columns.{column_count}
use Rattle.block_work.proofs.columns.column_count.Goals as goal

pub count_columns-requires : goal.count_columns-requires
count_columns-requires c = subst (λ (k : ℕ). T (is_size k) × (k * k ≤ length c.args.coeff.now)) c.if-n-eq4.true c.requires

pub returns-then-n-eq4 : goal.returns-then-n-eq4
returns-then-n-eq4 c = subst (λ (k : ℕ). c.count_columns.result ≡ column_count k c.args.coeff.now) (sym c.if-n-eq4.true) c.count_columns.ensures
