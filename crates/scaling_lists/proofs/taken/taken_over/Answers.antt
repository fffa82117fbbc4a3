-- `scaling_lists::taken::taken_over` meets its contract: the list that the reference means.
use Rattle.std.proofs.lemmas.Result.{err_from_is_err_and}
use Rattle.scaling_lists_codes.specs.Syntax.{size_id, matrix_id}
use Rattle.scaling_lists_taken.specs.Lent.{lent_lists}
use Rattle.scaling_lists.specs.Work.{lists_held}
use Rattle.scaling_lists.proofs.ListLaws.{taken_got, taken_stop}
use Rattle.scaling_lists.proofs.taken.taken_over.Goals as goal

pub returns-in_err-delta : goal.returns-in_err-delta
unfolding size_id
returns-in_err-delta c =
    let a = c.args in
    let p = err_from_is_err_and c.from_residual.result c.from_residual.ensures.1 in
    let e = rw c.matrix_of-matrix_id.ensures.0 at c.in_err-delta.ensures.0 in
    rw (p.1, p.2) (taken_stop (lent_lists a.defaults) (size_id a.j) (matrix_id a.j) a.bytes.now (lists_held a.j a.held.now) a.at _ e, tt)

pub fill_referred-dc-requires : goal.fill_referred-dc-requires
unfolding size_id
fill_referred-dc-requires c = (c.requires.0, rw c.matrix_of-matrix_id.ensures.0 at c.in_ok-delta.ensures.1.1)

pub returns : goal.returns
unfolding size_id
returns c =
    let a = c.args in
    let e = rw c.matrix_of-matrix_id.ensures.0 at c.in_ok-delta.ensures.0 in
    (taken_got (lent_lists a.defaults) (size_id a.j) (matrix_id a.j) a.bytes.now (lists_held a.j a.held.now) a.at _ _ _ e c.fill_referred-dc.ensures, c.in_ok-delta.ensures.1.0)
