-- `picture::refuse::check_samples` meets its contract: where no sample is above the largest the search finds none; else it decides.
use Rattle.picture.proofs.RebuildLaws.{below_passes}
use Rattle.picture.proofs.refuse.check_samples.Goals as goal

pub returns-then-all_below : goal.returns-then-all_below
returns-then-all_below c = below_passes c.args.top c.args.samples.now (c.all_below.ensures c.if-all_below.true)
