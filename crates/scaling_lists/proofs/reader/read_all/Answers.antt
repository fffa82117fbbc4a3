-- `scaling_lists::reader::read_all` meets its contract: in the end no list is left to read.
use Rattle.std.proofs.lemmas.Result.{err_from_is_err_and}
use Rattle.scaling_lists.proofs.ReaderLaws.{going_start, going_stop, going_more, going_done}
use Rattle.scaling_lists.proofs.reader.read_all.Goals as goal

pub loop-j-init : goal.loop-j-init
loop-j-init c = going_start _ _ _

pub returns-in_err-at : goal.returns-in_err-at
returns-in_err-at c =
    let p = err_from_is_err_and c.from_residual.result c.from_residual.ensures.1 in
    rw (p.1, p.2) (going_stop c.loop-j.invariant _ c.loop-j-test.true c.in_err-at.ensures.0)

pub loop-j-preserved : goal.loop-j-preserved
loop-j-preserved c = going_more c.loop-j.invariant _ _ c.loop-j-test.true c.in_ok-at.ensures.0 c.in_ok-at.ensures.1

pub returns : goal.returns
returns c = going_done c.loop-j.invariant c.loop-j-test.false
