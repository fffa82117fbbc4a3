-- `scaling_lists::coded::entries_from` meets its contract: in the end nothing is left to read.
use native.Mathlib.Omega.{arith}
use Rattle.std.proofs.lemmas.Result.{err_from_is_err_and}
use Rattle.scaling_lists.proofs.EntriesLaws.{entries_stop, entries_more, entries_done}
use Rattle.scaling_lists.proofs.coded.entries_from.Goals as goal

pub returns-in_err-value : goal.returns-in_err-value
returns-in_err-value c =
    let p = err_from_is_err_and c.from_residual.result c.from_residual.ensures.1 in
    rw (p.1, p.2) (entries_stop c.loop-place.invariant _ c.loop-place-test.true c.in_err-value.ensures.0, tt)

pub loop-place-preserved : goal.loop-place-preserved
loop-place-preserved c = entries_more c.loop-place.invariant _ _ c.loop-place-test.true c.in_ok-value.ensures.0 c.in_ok-value.ensures.1

pub returns : goal.returns
returns c =
    (entries_done c.loop-place.invariant c.loop-place-test.false, omega (arith, c.loop-place.invariant.near, c.loop-place.invariant.within))
