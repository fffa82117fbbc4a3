-- `picture::refuse::all_below` meets its contract. The loop's invariant: the bits gathered reach every sample passed.
use Rattle.picture.specs.Rebuild.{Below}
use Rattle.picture.proofs.refuse.all_below.Given as goal

abbrev pub invariant-loop-sample : goal.invariant-loop-sample
invariant-loop-sample l = Below l.bits l.sample-index l.samples
