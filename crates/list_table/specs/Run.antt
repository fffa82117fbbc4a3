-- Lists of calls of both streams on one table, and of one stream alone. Change request R-10: two decks, one table of lists.
--   Call                      a call of a stream, with what it lends for writing
--   Reply                     what it hands back
--   reply_to short d s c       the reply of a stream d whose places are s
--   stream_after d s c         its places afterwards
--   history_replies, history_after   the replies to a list of calls of stream d alone, and its places after them
--   EmptyTable table          24 places, all of them free
--   StreamCall                a call with the stream that it names
--   reply_on, table_after table d c   the reply to a call on a table, and the table after it
--   replies_for d table cs     the replies to those calls of a list that name stream d
--   table_after_all table cs    the table after a list of calls
--   calls_of d cs              the calls of a list that name stream d, in their order
--   FollowsOwnCalls d table cs    stream d gets what its own calls give it, made alone from the start
-- The statements; `proofs/RunLaws.antt` proves each under the name beside it.
--   StreamsDoNotMeet              streams_do_not_meet: of every stream, every empty table and every list of calls
--   OtherCallsChangeNothing       other_calls_change_nothing: two lists of calls with the same calls of a stream, in their order, get it the same replies
--   UnknownStreamChangesNothing   unknown_stream_changes_nothing: a call with a stream that is not one of the two leaves every table as it is
use Rattle.std.specs.Prelude.{◌≡◌, Bool, false, cond, List, [], ◌∷◌, ℕ, ◌*◌, ◌≤◌, ◌<◌, eqb, ℤ, length, get_or, set}
use Rattle.refusal.specs.Outcome.{Outcome}
use Rattle.scaling_blocks.specs.Blocks.{CountWritten}
use Rattle.list_places.specs.Stream.{Stream, empty_stream, lowest_free, number_ladder, number_answer}
use Rattle.list_places.specs.Stream.Place.{free, held}
use Rattle.list_places.specs.Table.{stream_of, short}
use Rattle.list_blocks.specs.Scale.{Block, scale_answer}
use Rattle.list_table.specs.Calls.{Found, store_ladder, store_answer, find_answer, stored_table, dropped_table}

pub data Call : Type 0 where
  store : List ℕ → ℕ → Call
  drop : ℕ → Call
  find : ℕ → List ℕ → Call
  scale : ℕ → Block → List ℤ → Call

pub data Reply : Type 0 where
  stored : Outcome ℕ → Reply
  dropped : Outcome (Unit {0}) → Reply
  found : Found → Reply
  scaled : CountWritten → Reply

abbrev pub reply_to : Bool → ℕ → Stream → Call → Reply
reply_to short d s (store list dc) = stored (store_answer short d s list)
reply_to short d s (drop i) = dropped (number_answer short d s i)
reply_to short d s (find i out) = found (find_answer short d s i out)
reply_to short d s (scale i k out) = scaled (scale_answer short d s i k out)

unfoldable pub stream_after : ℕ → Stream → Call → Stream
stream_after d s (store list dc) = store_ladder (λ e. s) (set s (lowest_free s) (held list dc)) false d s (length list)
stream_after d s (drop i) = number_ladder (λ e. s) (set s i free) false d s i
stream_after d s (find i out) = s
stream_after d s (scale i k out) = s

unfoldable pub history_replies : ℕ → Stream → List Call → List Reply
history_replies d s [] = []
history_replies d s (c ∷ cs) = reply_to false d s c ∷ history_replies d (stream_after d s c) cs

unfoldable pub history_after : ℕ → Stream → List Call → Stream
history_after d s [] = s
history_after d s (c ∷ cs) = history_after d (stream_after d s c) cs

pub record EmptyTable (table : List ℕ) : Type 0 where
  pub room : 1584 ≤ length table
  pub free_at : (p : ℕ) → p < 24 → get_or table (66 * p) 0 ≡ 0

pub record StreamCall : Type 0 where
  pub stream : ℕ
  pub call : Call

abbrev pub reply_on : List ℕ → ℕ → Call → Reply
reply_on table d c = reply_to (short table) d (stream_of table d) c

unfoldable pub table_after : List ℕ → ℕ → Call → List ℕ
table_after table d (store list dc) = stored_table table d list dc
table_after table d (drop i) = dropped_table table d i
table_after table d (find i out) = table
table_after table d (scale i k out) = table

unfoldable pub replies_for : ℕ → List ℕ → List StreamCall → List Reply
replies_for d table [] = []
replies_for d table (c ∷ cs) =
    let later : List Reply = replies_for d (table_after table c.stream c.call) cs in
    cond (eqb c.stream d) (reply_on table c.stream c.call ∷ later) later

unfoldable pub table_after_all : List ℕ → List StreamCall → List ℕ
table_after_all table [] = table
table_after_all table (c ∷ cs) = table_after_all (table_after table c.stream c.call) cs

unfoldable pub calls_of : ℕ → List StreamCall → List Call
calls_of d [] = []
calls_of d (c ∷ cs) = cond (eqb c.stream d) (c.call ∷ calls_of d cs) (calls_of d cs)

pub record FollowsOwnCalls (d : ℕ) (table : List ℕ) (cs : List StreamCall) : Type 0 where
  pub replies : replies_for d table cs ≡ history_replies d empty_stream (calls_of d cs)
  pub places : stream_of (table_after_all table cs) d ≡ history_after d empty_stream (calls_of d cs)

abbrev pub StreamsDoNotMeet : Type 0
StreamsDoNotMeet = (d : ℕ) (table : List ℕ) (cs : List StreamCall) → EmptyTable table → FollowsOwnCalls d table cs

abbrev pub OtherCallsChangeNothing : Type 0
OtherCallsChangeNothing =
    (d : ℕ) (table other : List ℕ) (cs es : List StreamCall) → EmptyTable table → EmptyTable other
    → calls_of d cs ≡ calls_of d es
    → replies_for d table cs ≡ replies_for d other es

abbrev pub UnknownStreamChangesNothing : Type 0
UnknownStreamChangesNothing = (d : ℕ) (table : List ℕ) (c : Call) → 1 < d → table_after table d c ≡ table
