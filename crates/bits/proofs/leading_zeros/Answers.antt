-- `bits::leading_zeros` meets its contract: the first one is the definition's.
use mathlib.Core.Path.{sym, ◌∙◌}
use borrow.Author.Tests.{eq-eqb}
use Rattle.integers.proofs.SearchLaws.{first_where-none, first_where_found}
use Rattle.bits.specs.ExpGolomb.{leading_zeros}
use Rattle.bits.proofs.leading_zeros.Goals as goal

pub returns-then-bit-eq1 : goal.returns-then-bit-eq1
unfolding leading_zeros
returns-then-bit-eq1 c =
    sym (first_where_found 33 c.loop-zeros.zeros c.loop-zeros-test.true c.loop-zeros.invariant (eq-eqb _ 1 (sym c.bit.ensures ∙ c.if-bit-eq1.true)))

pub returns : goal.returns
unfolding leading_zeros
returns c = sym (first_where-none 33 c.loop-zeros-test.false c.loop-zeros.invariant)
