-- `scaling_lists_taken::lent::DefaultLists::of` meets its contract: by the size, then by the matrix.
use Rattle.scaling_lists_codes.specs.Syntax.{size_id}
use Rattle.scaling_lists_taken.specs.Lent.{lent_lists}
use Rattle.scaling_lists_taken.proofs.TakenLaws.{default_four, default_intra, default_inter}
use Rattle.scaling_lists_taken.proofs.lent.DefaultLists.of.Goals as goal

pub returns-then-j-eq0 : goal.returns-then-j-eq0
unfolding size_id
returns-then-j-eq0 c = (default_four (lent_lists c.args.self) _ _ c.if-j-eq0.true, c.args.self.whole.0)

pub returns-then-matrix_of-lt3 : goal.returns-then-matrix_of-lt3
unfolding size_id
returns-then-matrix_of-lt3 c = (default_intra (lent_lists c.args.self) _ _ c.if-j-eq0.false (rw c.matrix_of.ensures.0 at c.if-matrix_of-lt3.true), c.args.self.whole.1)

pub returns : goal.returns
unfolding size_id
returns c = (default_inter (lent_lists c.args.self) _ _ c.if-j-eq0.false (rw c.matrix_of.ensures.0 at c.if-matrix_of-lt3.false), c.args.self.whole.2)
