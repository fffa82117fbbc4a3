-- Examples of the definitions, as one list of cases under one statement: numbers of one stream given out lowest first and again after a drop, every
-- refusal of a store, and two streams that store by turns on one table.
use mathlib.Core.Path.{refl}
use mathlib.Core.List.{List, [], ◌∷◌, ◌++◌}
use Prim.Native.Nat.{ℕ}
use lib.ListN.{get_or, replicate}
use Rattle.integers.specs.Examples.{Case, AllHold, ◌gives◌}
use Rattle.integers.specs.Lists.{tabulate, tabulate_from, overwrite}
use Rattle.integers.specs.Search.{first_where}
use Rattle.refusal.specs.Condition.{list_refused}
use Rattle.list_places.specs.Stream.{empty_stream, lowest_free, stream_refused, missing, full, number_ladder, number_answer}
use Rattle.list_places.specs.Table.{entries_at, place_at, stream_of, short}
use Rattle.list_table.specs.Calls.{store_ladder, store_answer, find_answer, stored_table, dropped_table}
use Rattle.list_table.specs.Run.{Call, Reply, StreamCall, stream_after, history_replies, table_after, replies_for}
use Rattle.list_table.specs.Run.Call.{store, drop, find}
use Rattle.list_table.specs.Run.Reply.{stored, dropped, found, scaled}

-- a reply as numbers: the refusal's, then the number of a store, or DC and the elements 0, 63 and 64 of the lent list
told : Reply → List ℕ
told (stored o) = o.number ∷ o.value ∷ []
told (dropped o) = o.number ∷ []
told (found f) = f.answer.number ∷ f.answer.value ∷ get_or f.list 0 0 ∷ get_or f.list 63 0 ∷ get_or f.list 64 0 ∷ []
told (scaled w) = []

all_told : List Reply → List ℕ
unfolding told
all_told [] = []
all_told (r ∷ rs) = told r ++ all_told rs

keep : ℕ → Call
keep v = store (replicate 64 v) v

look : ℕ → Call
look i = find i (replicate 65 9)

by : ℕ → Call → StreamCall
by d c = record { stream = d; call = c }

times : ℕ → Call → List Call
times n c = replicate n c

interleaved : List StreamCall
unfolding keep look by
interleaved = by 0 (keep 20) ∷ by 1 (keep 30) ∷ by 2 (keep 40) ∷ by 1 (look 0) ∷ by 0 (drop 0) ∷ by 1 (look 0) ∷ by 0 (look 0) ∷ []

pub examples : List (Case (List ℕ))
unfolding all_told told keep look by times interleaved
examples =
    (all_told (history_replies 0 empty_stream (keep 20 ∷ keep 21 ∷ drop 0 ∷ drop 0 ∷ keep 22 ∷ look 0 ∷ look 2 ∷ [])) gives (0 ∷ 0 ∷ 0 ∷ 1 ∷ 0 ∷ 18 ∷ 0 ∷ 0 ∷ 0 ∷ 22 ∷ 22 ∷ 22 ∷ 9 ∷ 18 ∷ 0 ∷ 9 ∷ 9 ∷ 9 ∷ []))
    ∷ (all_told (history_replies 1 empty_stream (times 12 (keep 16) ++ (keep 16 ∷ store [] 16 ∷ drop 11 ∷ keep 16 ∷ drop 12 ∷ []))) gives (0 ∷ 0 ∷ 0 ∷ 1 ∷ 0 ∷ 2 ∷ 0 ∷ 3 ∷ 0 ∷ 4 ∷ 0 ∷ 5 ∷ 0 ∷ 6 ∷ 0 ∷ 7 ∷ 0 ∷ 8 ∷ 0 ∷ 9 ∷ 0 ∷ 10 ∷ 0 ∷ 11 ∷ 17 ∷ 0 ∷ 5 ∷ 0 ∷ 0 ∷ 0 ∷ 11 ∷ 18 ∷ []))
    ∷ (all_told (history_replies 2 empty_stream (keep 16 ∷ store [] 16 ∷ drop 0 ∷ look 0 ∷ find 0 [] ∷ [])) gives (18 ∷ 0 ∷ 5 ∷ 0 ∷ 18 ∷ 18 ∷ 0 ∷ 9 ∷ 9 ∷ 9 ∷ 7 ∷ 0 ∷ 0 ∷ 0 ∷ 0 ∷ []))
    ∷ (all_told (replies_for 0 (replicate 1584 0) interleaved) gives (0 ∷ 0 ∷ 0 ∷ 18 ∷ 0 ∷ 9 ∷ 9 ∷ 9 ∷ []))
    ∷ (all_told (replies_for 1 (replicate 1584 0) interleaved) gives (0 ∷ 0 ∷ 0 ∷ 30 ∷ 30 ∷ 30 ∷ 9 ∷ 0 ∷ 30 ∷ 30 ∷ 30 ∷ 9 ∷ []))
    ∷ (all_told (replies_for 2 (replicate 1584 0) interleaved) gives (18 ∷ 0 ∷ []))
    ∷ (all_told (replies_for 0 (replicate 1583 0) interleaved) gives (7 ∷ 0 ∷ 7 ∷ 7 ∷ 0 ∷ 9 ∷ 9 ∷ 9 ∷ []))
    ∷ []

pub examples_hold : AllHold examples
unfolding examples all_told told keep look by times interleaved history_replies replies_for stream_after table_after store_answer number_answer find_answer store_ladder number_ladder lowest_free stream_refused missing full empty_stream list_refused stream_of place_at entries_at short stored_table dropped_table tabulate tabulate_from overwrite first_where
examples_hold = refl
