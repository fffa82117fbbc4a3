-- `level_edits::block::find_block` meets its contract: the levels that scale to what each coefficient may be are those that give the target.
use mathlib.Core.Path.{◌∙◌}
use Rattle.h265.proofs.RangeLaws.{size_square, transform_range_most}
use Rattle.scaling_values.specs.Given.{list_of}
use Rattle.level_edits.proofs.BlockLaws.{scaled_ask, spread_least, spread_most}
use Rattle.level_edits.proofs.block.find_block.Goals as goal

pub find-requires : goal.find-requires
find-requires c =
    let a = c.args in
    scaled_ask (list_of a.list) c.requires a.levels.now c.scale.ensures (size_square a.n c.requires.list.size) (size_square a.n c.requires.list.size)

pub spread-requires : goal.spread-requires
spread-requires c =
    let a = c.args in
    (c.requires.invertible, c.requires.list, rw c.transform_range-range.ensures (transform_range_most a.precision.bit_depth a.precision.extended c.requires.depth.1), c.requires.leasts, c.requires.mosts)

pub returns : goal.returns
returns c =
    let a = c.args in (
      c.spread.ensures.0 ∙ spread_least (list_of a.list) c.requires a.levels.now c.scale.ensures a.target.now a.wanted.now c.transform_range-range.ensures c.find.ensures.0 c.find.ensures.1 a.least.now,
      c.spread.ensures.1 ∙ spread_most (list_of a.list) c.requires a.levels.now c.scale.ensures a.target.now a.wanted.now c.transform_range-range.ensures c.find.ensures.0 c.find.ensures.1 a.most.now,
    )
