-- The listing over a feed: which m scaling uses at each index of its blocks, and which rule supplies it. change requests R-1, R-3 and R-14; the
-- lines of a block are those of `Block` beside this.
--   levels_lines given list n       the lines of a block, by the parameters
--   kind_lines kind s               what an accepted record of a kind adds: lines for levels, nothing for the others
--   record_lines kind s             the same of a byte's kind, if it has one
--   trace_effect g s k body         one record: the feed's answer and state, with the listing for its text
--   block_size kind                 the size of a kind's block, and 0 where it has none
--   size_of kind                    the same of a byte's kind, if it has one
--   list_room k                     the bytes that the lines of a record may take: 20 for each index of a block
--   trace_text bytes                the listing of a whole feed: its lines, then that of a refusal
--   listing_room bytes              the bytes that the listing of a feed may take, the line of a refusal included
use Rattle.std.specs.Prelude.{cond, List, [], ℕ, ◌+◌, ◌*◌, eqb, length, Option, Some, None}
use Rattle.h265.specs.ScalingFactor.{ScalingList}
use Rattle.refusal.specs.Outcome.{Outcome}
use Rattle.feed_format.specs.declared.Parameters.{Parameters}
use Rattle.feed_format.specs.declared.Kind.{Kind}
use Rattle.feed_format.specs.declared.Kind.TheVariants.{Parameters as ParametersKind, List as ListKind, NoList, Levels, Edit, Reading}
use Rattle.feed_format.specs.Format.{kind_of, by_kind}
use Rattle.feed_format.specs.Room.{room_from}
use Rattle.feed_rules.specs.Record.{FeedState, Effect, Keeper, record_effect}
use Rattle.feed_rules.specs.Feed.{text_by, History, in_history, beginning}
use Rattle.feed_rules.specs.Feed.History.{none}
use Rattle.scale_trace_rules.specs.Block.{block_lines}

-- ---- one block
-- no block is accepted before the parameters
abbrev pub levels_lines : Option Parameters → ScalingList → ℕ → List ℕ
levels_lines None list n = []
levels_lines (Some p) list n = block_lines list p.mode n

-- ---- one record
-- an edit leaves m as it was, and a reading repeats a block that was listed
abbrev pub kind_lines : {H : Type 0} → Kind → FeedState H → List ℕ
kind_lines ParametersKind s = []
kind_lines ListKind s = []
kind_lines NoList s = []
kind_lines (Levels n) s = levels_lines s.given s.list n
kind_lines Edit s = []
kind_lines Reading s = []

abbrev pub record_lines : {H : Type 0} → Option Kind → FeedState H → List ℕ
record_lines (Some kind) s = kind_lines kind s
record_lines None s = []

unfoldable pub trace_effect : {H : Type 0} → Keeper H → FeedState H → ℕ → List ℕ → Outcome (Effect H)
trace_effect {H} g s k body =
    let o : Outcome (Effect H) = record_effect g s k body in
    record {
      number = o.number;
      place = o.place;
      row = o.row;
      column = o.column;
      value = record { text = cond (eqb o.number 0) (record_lines (kind_of k) s) []; state = o.value.state };
    }

abbrev pub block_size : Kind → ℕ
block_size ParametersKind = 0
block_size ListKind = 0
block_size NoList = 0
block_size (Levels n) = n
block_size Edit = 0
block_size Reading = 0

abbrev pub size_of : Option Kind → ℕ
size_of kind = by_kind block_size kind

unfoldable pub list_room : ℕ → ℕ
list_room k = 20 * (size_of (kind_of k) * size_of (kind_of k))

-- ---- a whole feed
-- as the feed's own text, with nothing behind the last record
unfoldable pub trace_text : List ℕ → List ℕ
trace_text bytes = text_by (trace_effect in_history) (λ (s : FeedState History). []) (length bytes + 1) (beginning none) bytes

unfoldable pub listing_room : List ℕ → ℕ
listing_room bytes = room_from list_room (length bytes + 1) bytes
