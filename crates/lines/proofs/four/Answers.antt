-- `lines::four` meets its contract: two pairs of products, lane by lane, and what is added to them.
use native.Mathlib.Omega.{arith}
use Rattle.lines.proofs.ColumnLaws.{values_at}
use Rattle.lines.proofs.FourLaws.{first_fits, all_fits, four_sum}
use Rattle.lines.proofs.four.Goals as goal

pub plus-requires : goal.plus-requires
plus-requires c j = first_fits (c.products.ensures j).1 (c.products-2.ensures j).1

pub plus-requires-2 : goal.plus-requires-2
plus-requires-2 c j = all_fits (c.products.ensures j).1 (c.products-2.ensures j).1 (c.plus.ensures j) (c.requires.1 j)

pub returns : goal.returns
returns c j =
    four_sum c.requires.0 _
    (values_at c.args.x.now 0 (omega arith) j _) (values_at c.args.x.now 1 (omega arith) j _)
    (values_at c.args.x.now 2 (omega arith) j _) (values_at c.args.x.now 3 (omega arith) j _)
    (c.products.ensures j) (c.products-2.ensures j) (c.requires.1 j) (c.plus.ensures j) (c.plus-2.ensures j)
