-- `list_table::drop_list` meets its contract: the ladder, and one byte.
use Prim.Native.Nat.{◌<◌}
use native.Mathlib.Omega.{arith}
use Rattle.list_places.proofs.TableLaws.{table_room}
use Rattle.list_table.proofs.AnswerLaws.{Held, held_inside, number_held, drop_done}
use Rattle.list_table.proofs.drop_list.Goals as goal
use Rattle.list_table.proofs.drop_list.Goals.{In_ok-number_refused}

is_held : (c : In_ok-number_refused) → let a = c.args in Held a.table.now a.stream a.number
is_held c = let a = c.args in number_held a.table.now a.stream a.number c.in_ok-number_refused.ensures

pub start_of-requires : goal.start_of-requires
start_of-requires c = held_inside _ _ _ (is_held (goal.at.start_of-requires c).In_ok-number_refused)

pub bounds-table-start_of : goal.bounds-table-start_of
bounds-table-start_of c =
    let k = (goal.at.bounds-table-start_of c).In_ok-number_refused in
    omega (arith, c.start_of.ensures, held_inside _ _ _ (is_held k), table_room c.args.table.now (is_held k).room)

pub returns : goal.returns
returns c = let a = c.args in drop_done a.table.now a.stream a.number c.start_of.result (is_held (goal.at.returns c).In_ok-number_refused) c.start_of.ensures
