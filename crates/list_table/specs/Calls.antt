-- What a store, a drop and a look at a number answer, and what they leave in the table. Change request R-10, and rows 5, 7, 17 and 18 of the table of refusals.
-- Letters: d which stream, s its places, i a number.
--   store_answer        refuses 5, 7, 18, 17; else the lowest free number
--   find_answer         refuses 7, 18; else DC, and the entries at the start of a lent list
--   stored_table        the table after a store: 66 bytes replaced, or none where it is refused
--   dropped_table       the table after a drop: one byte replaced, or none
-- A drop answers as `number_answer` says.
use Rattle.std.specs.Prelude.{Bool, ◌||◌, cond, List, ℕ, ◌+◌, ◌*◌, ltb, length, get_or, set}
use Rattle.integers.specs.Lists.{overwrite}
use Rattle.refusal.specs.declared.Refusal.{Refusal}
use Rattle.refusal.specs.declared.Refusal.TheVariants.{ListLengthInvalid, OutputTooShort, StreamFull, ListMissing}
use Rattle.refusal.specs.Condition.{list_refused}
use Rattle.refusal.specs.Outcome.{Outcome, accepted, refused}
use Rattle.list_places.specs.Stream.{Place, Stream, entries_of, dc_of, numbered, lowest_free, stream_refused, full, number_ladder}
use Rattle.list_places.specs.Table.{stream_of, short, put}

-- by the length of the list; `stop` makes something of a refusal
unfoldable pub store_ladder : {A : Type 0} → (Refusal → A) → A → Bool → ℕ → Stream → ℕ → A
store_ladder stop done short d s entries =
    cond (list_refused entries) (stop ListLengthInvalid)
    (cond short (stop OutputTooShort)
    (cond (stream_refused d) (stop ListMissing)
    (cond (full s) (stop StreamFull) done)))

unfoldable pub store_answer : Bool → ℕ → Stream → List ℕ → Outcome ℕ
store_answer short d s list = store_ladder (refused 0) (accepted (lowest_free s)) short d s (length list)

unfoldable pub stored_table : List ℕ → ℕ → List ℕ → ℕ → List ℕ
stored_table table d list dc =
    let s : Stream = stream_of table d in
    store_ladder (λ e. table) (put table (12 * d + lowest_free s) list dc) (short table) d s (length list)

unfoldable pub dropped_table : List ℕ → ℕ → ℕ → List ℕ
dropped_table table d i = number_ladder (λ e. table) (set table (66 * (12 * d + i)) 0) (short table) d (stream_of table d) i

-- what a look at a number hands back: its outcome, and the lent list afterwards
pub record Found : Type 0 where
  pub answer : Outcome ℕ
  pub list : List ℕ

abbrev pub not_found : List ℕ → Refusal → Found
not_found out e = record { answer = refused 0 e; list = out }

abbrev pub found_at : Place → List ℕ → Found
found_at p out = record { answer = accepted (dc_of p); list = overwrite 64 (λ j. get_or (entries_of p) j 0) out }

unfoldable pub find_answer : Bool → ℕ → Stream → ℕ → List ℕ → Found
find_answer short d s i out =
    number_ladder (not_found out) (found_at (numbered s i) out) (short || ltb (length out) 64) d s i
