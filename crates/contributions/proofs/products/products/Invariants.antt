-- `contributions::products::products` meets its contract: the loop has stored the products of the coefficients passed.
use mathlib.Core.Path.{◌≡◌}
use Prim.Native.Nat.{◌*◌, ◌≤◌}
use Rattle.integers.proofs.ListsLaws.{Stored}
use Rattle.h265.specs.Transform.{row_order}
use Rattle.contributions.specs.Work.{product_of}
use Rattle.contributions.proofs.products.products.Given as goal

abbrev pub invariant-loop-i : goal.invariant-loop-i
invariant-loop-i l = (l.i ≤ l.n * l.n) × (l.count ≡ l.n * l.n) × Stored (row_order l.n (product_of l.down l.across l.n l.coeff)) l.initial.out l.i l.out
