-- `scaling_blocks::each::scale_listed` meets its contract: by either numbers a level's coefficient, and whether it was limited, are the block's.
use Rattle.scaling_values.proofs.ListedLaws.{compact_value, compact_limited_lem}
use Rattle.scaling_values.proofs.LongLaws.{long_value, long_limited_lem}
use Rattle.scaling_blocks.proofs.WorkLaws.{by_entry_fits, by_entry_listed}
use Rattle.scaling_blocks.proofs.each.scale_listed.Goals as goal

pub scale_by-requires-clause-fits : goal.scale_by-requires-clause-fits
scale_by-requires-clause-fits g c = by_entry_fits _ _ c.requires.scalable.ends (compact_value c.listed_params.ensures)

pub returns-then-by : goal.returns-then-by
returns-then-by g c = by_entry_listed c.args.by _ _ _ _ _ (compact_value c.listed_params.ensures) (compact_limited_lem c.listed_params.ensures) c.scale_by.ensures

pub scale_by-requires-2-clause-fits : goal.scale_by-requires-2-clause-fits
scale_by-requires-2-clause-fits g c = by_entry_fits _ _ c.requires.scalable.ends (long_value c.long_params.ensures)

pub returns : goal.returns
returns g c = by_entry_listed c.args.by _ _ _ _ _ (long_value c.long_params.ensures) (long_limited_lem c.long_params.ensures) c.scale_by-2.ensures
