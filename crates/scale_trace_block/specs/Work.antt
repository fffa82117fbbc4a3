-- What the functions of a block's lines rely on and hand back.
--   source_is src                   the rule that a source of the code stands for
--   position_of src                 its position, and 0 where the rule has none
--   SourceAt list mode n i src     the source is that of index i
use Rattle.std.specs.Prelude.{◌≡◌, ℕ, ◌<◌}
use Rattle.h265.specs.ScalingFactor.{ScalingList}
use Rattle.h265.specs.ScalingFactor.FactorSource.{none, four, eight, dc, repeated}
use Rattle.feed_format.specs.declared.Mode.{Mode}
use Rattle.scale_trace_block.specs.declared.Source.{Source}
use Rattle.scale_trace_block.specs.declared.Source.TheVariants.{None, Four, Eight, Dc, Repeat, Skip}
use Rattle.scale_trace_rules.specs.Block.{BlockSource, block_source}
use Rattle.scale_trace_rules.specs.Block.BlockSource.{rule, skip}

abbrev pub source_is : Source → BlockSource
source_is None = rule none
source_is (Four p) = rule (four p)
source_is (Eight p) = rule (eight p)
source_is Dc = rule dc
source_is (Repeat p) = rule (repeated p)
source_is Skip = skip

abbrev pub position_of : Source → ℕ
position_of None = 0
position_of (Four p) = p
position_of (Eight p) = p
position_of Dc = 0
position_of (Repeat p) = p
position_of Skip = 0

pub record SourceAt (list : ScalingList) (mode : Mode) (n i : ℕ) (source : Source) : Type 0 where
  pub is : source_is source ≡ block_source list mode n i
  pub low : position_of source < 64
