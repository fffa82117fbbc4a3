-- `list_table::store_list` meets its contract: the ladder, and the place of the lowest free number.
use mathlib.Core.Path.{◌≡◌}
use Rattle.std.proofs.Common.{rules, Err}
use Rattle.list_table.proofs.AnswerLaws.{store_length, store_short, store_stream, store_full, store_done}
use Rattle.list_table.proofs.store_list.Goals as goal

pub returns-in_err-check_list : goal.returns-in_err-check_list
returns-in_err-check_list c =
    let told : c.from_residual.result ≡ Err c.in_err-check_list.field-0.0 = search rules in
    let e = c.in_err-check_list.ensures {u = tt} in
    rw told (store_length _ _ _ _ e.0 e.1)

pub returns-in_err-check_table : goal.returns-in_err-check_table
returns-in_err-check_table c =
    let told : c.from_residual-in_err-check_table.result ≡ Err c.in_err-check_table.field-0.0 = search rules in
    let e = c.in_err-check_table.ensures {u = tt} in
    rw told (store_short _ _ _ _ (c.in_ok-check_list.ensures {u = tt}).0 e.0 e.1)

pub returns-in_err-check : goal.returns-in_err-check
returns-in_err-check c =
    let told : c.from_residual-in_err-check.result ≡ Err c.in_err-check.field-0.0 = search rules in
    let e = c.in_err-check.ensures {u = tt} in
    rw told (store_stream _ _ _ _ (c.in_ok-check_list.ensures {u = tt}).0 (c.in_ok-check_table.ensures {u = tt}).0 e.0 e.1)

pub returns-in_default : goal.returns-in_default
returns-in_default c = store_full _ _ _ _ (c.in_ok-check_list.ensures {u = tt}).0 (c.in_ok-check_table.ensures {u = tt}).0 (c.in_ok-check.ensures {u = tt}) (c.in_default.ensures {u = tt})

pub returns : goal.returns
returns c = store_done _ _ _ _ (c.in_ok-check_list.ensures {u = tt}).0 (c.in_ok-check_table.ensures {u = tt}).0 (c.in_ok-check.ensures {u = tt}) c.in-Some.number c.start_of.result _ (c.in-Some.ensures {u = tt}) c.start_of.ensures c.put_place.ensures
