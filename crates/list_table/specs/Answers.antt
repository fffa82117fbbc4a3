-- The answers of the calls on a table as number, place and value, which is zero on refusal; and their contracts.
--   store_outcome      of a store: the number
--   list_outcome       of a look at a number: DC
--   Stores, Drops     a call's answer and its table afterwards are what the definitions say
--   Finds             a call's answer and its lent list afterwards are
use Rattle.std.specs.Prelude.{◌≡◌, List, ℕ, Result}
use Rattle.refusal.specs.Outcome.{answer, outcome}
use Rattle.refusal.specs.declared.Refusal.{Refusal}
use Rattle.list_places.specs.Stream.{number_answer}
use Rattle.list_places.specs.Table.{stream_of, short}
use Rattle.list_table.specs.Calls.{Found, store_answer, stored_table, dropped_table}

pub record Stores (r : Result ℕ Refusal) (after : List ℕ) (table : List ℕ) (d : ℕ) (list : List ℕ) (dc : ℕ) : Type 0 where
  pub answered : outcome 0 r ≡ store_answer (short table) d (stream_of table d) list
  pub table_is : after ≡ stored_table table d list dc

pub record Drops (r : Result (Unit {0}) Refusal) (after : List ℕ) (table : List ℕ) (d i : ℕ) : Type 0 where
  pub answered : answer r ≡ number_answer (short table) d (stream_of table d) i
  pub table_is : after ≡ dropped_table table d i

pub record Finds (r : Result ℕ Refusal) (after : List ℕ) (w : Found) : Type 0 where
  pub answered : outcome 0 r ≡ w.answer
  pub list_is : after ≡ w.list
