-- `picture::refuse::all_below` meets its contract. The loop's invariant: the bits gathered reach every sample passed.
use Rattle.picture.proofs.SamplesLaws.{below_more}
use Rattle.picture.proofs.refuse.all_below.Goals as goal

pub loop-sample-preserved : goal.loop-sample-preserved
loop-sample-preserved c = below_more c.loop-sample.invariant
