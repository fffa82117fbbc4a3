-- `list_table::list_at` meets its contract: the ladder, the entries and DC.
use Prim.Native.Nat.{◌<◌}
use native.Mathlib.Omega.{arith}
use borrow.Author.Tests.{ltb-false}
use Rattle.list_places.proofs.TableLaws.{table_room}
use Rattle.list_table.proofs.AnswerLaws.{Held, held_inside, number_held, find_done}
use Rattle.list_table.proofs.list_at.Goals as goal
use Rattle.list_table.proofs.list_at.Goals.{In_ok-number_refused}

is_held : (c : In_ok-number_refused) → let a = c.args in Held a.table.now a.stream a.number
is_held c = let a = c.args in number_held a.table.now a.stream a.number c.in_ok-number_refused.ensures

pub start_of-at-requires : goal.start_of-at-requires
start_of-at-requires c = held_inside _ _ _ (is_held (goal.at.start_of-at-requires c).In_ok-number_refused)

pub entries_out-requires : goal.entries_out-requires
entries_out-requires c =
    let k = (goal.at.entries_out-requires c).In_ok-number_refused in (
      omega (arith, c.start_of-at.ensures, held_inside _ _ _ (is_held k), table_room c.args.table.now (is_held k).room),
      omega (arith, ltb-false _ 64 c.in_ok-check.ensures),
    )

pub bounds-table-at : goal.bounds-table-at
bounds-table-at c =
    let k = (goal.at.bounds-table-at c).In_ok-number_refused in
    omega (arith, c.start_of-at.ensures, held_inside _ _ _ (is_held k), table_room c.args.table.now (is_held k).room)

pub returns : goal.returns
returns c =
    let a = c.args in
    find_done a.table.now a.stream a.number a.list_out.now c.in_ok-check.ensures c.start_of-at.result _ (is_held (goal.at.returns c).In_ok-number_refused) c.start_of-at.ensures c.entries_out.ensures
