-- Scaling lists in a table: what C gets, and the buffers afterwards.
--   Stores, Drops   the record r and the table `after` are what the wrapped functions' definitions say
--   Finds           the record r and the lent list `after` are
use Rattle.std.specs.Prelude.{◌≡◌, List, ℕ}
use Rattle.list_places.specs.Stream.{number_answer}
use Rattle.list_places.specs.Table.{stream_of, short}
use Rattle.list_table.specs.Calls.{Found, store_answer, stored_table, dropped_table}
use Rattle.c_api.specs.declared.Answered.{Answered}
use Rattle.c_api.specs.declared.NumberAnswered.{NumberAnswered}
use Rattle.c_api.specs.declared.StoreAnswered.{StoreAnswered}
use Rattle.c_api.specs.Answers.{of_answered, of_number, of_stored}

pub record Stores (r : StoreAnswered) (after : List ℕ) (table : List ℕ) (d : ℕ) (list : List ℕ) (dc : ℕ) : Type 0 where
  pub answered : of_stored r ≡ store_answer (short table) d (stream_of table d) list
  pub table_is : after ≡ stored_table table d list dc

pub record Drops (r : Answered) (after : List ℕ) (table : List ℕ) (d i : ℕ) : Type 0 where
  pub answered : of_answered r ≡ number_answer (short table) d (stream_of table d) i
  pub table_is : after ≡ dropped_table table d i

pub record Finds (r : NumberAnswered) (after : List ℕ) (w : Found) : Type 0 where
  pub answered : of_number r ≡ w.answer
  pub list_is : after ≡ w.list
