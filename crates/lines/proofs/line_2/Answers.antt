-- `lines::line_2` meets its contract: a sum and a difference, of which the first value has what is added to both.
use Rattle.lines.proofs.FoldLaws.{two_first, two_plus, two_minus, line_two}
use Rattle.lines.proofs.line_2.Goals as goal

pub plus-a-requires : goal.plus-a-requires
plus-a-requires c j = two_first (c.times_128.ensures j).1 (c.requires j)

pub plus-requires : goal.plus-requires
plus-requires c j = two_plus (c.times_128.ensures j).1 (c.times_128-b.ensures j).1 (c.requires j) (c.plus-a.ensures j)

pub minus-requires : goal.minus-requires
minus-requires c j = two_minus (c.times_128.ensures j).1 (c.times_128-b.ensures j).1 (c.requires j) (c.plus-a.ensures j)

pub returns : goal.returns
returns c j =
    line_two _ (c.value.ensures j) (c.value-2.ensures j) (c.requires j) (c.times_128.ensures j) (c.times_128-b.ensures j) (c.plus-a.ensures j) (c.plus.ensures j) (c.minus.ensures j)
