-- What reading scaling lists hands back. Change request R-5, and rows 5, 7 and 14 to 16 of the table.
--   room_refused        7: fewer than 20 × 64 entries or fewer than 20 DC numbers have room
--   entry_at read i     entry i % 64 of list i / 64
--   dc_at read j        the DC number of list j
--   lists_read          the answer and both buffers: lists and DC numbers from the start on, as lent where the call is refused
--   Reads              a call's answer and its buffers are what that says
use Rattle.std.specs.Prelude.{◌≡◌, Bool, cond, ◌||◌, List, ℕ, ◌/◌, ◌%◌, ltb, length, get_or, Result, Ok, Err}
use Rattle.integers.specs.Lists.{overwrite}
use Rattle.refusal.specs.declared.Refusal.{Refusal}
use Rattle.refusal.specs.declared.Refusal.TheVariants.{ListLengthInvalid, OutputTooShort}
use Rattle.refusal.specs.Outcome.{Outcome, accepted, refused, outcome}
use Rattle.scaling_lists_codes.specs.Syntax.{Reading, FactorList, Defaults, none, scaling_list_data}
use Rattle.scaling_lists_taken.specs.Held.{defaults_refused}

unfoldable pub room_refused : ℕ → ℕ → Bool
room_refused lists dcs = ltb lists 1280 || ltb dcs 20

unfoldable pub entry_at : List FactorList → ℕ → ℕ
entry_at read i = get_or (get_or read (i / 64) none).entries (i % 64) 0

unfoldable pub dc_at : List FactorList → ℕ → ℕ
dc_at read j = (get_or read j none).dc

pub record ListsRead : Type 0 where
  pub answer : Outcome ℕ
  pub lists : List ℕ
  pub dcs : List ℕ

abbrev pub untouched : List ℕ → List ℕ → Refusal → ListsRead
untouched lists dcs e = record { answer = refused 0 e; lists = lists; dcs = dcs }

abbrev pub written : List ℕ → List ℕ → Reading (List FactorList) → ListsRead
written lists dcs (Ok (read, bits)) =
    record { answer = accepted bits; lists = overwrite 1280 (entry_at read) lists; dcs = overwrite 20 (dc_at read) dcs }
written lists dcs (Err e) = untouched lists dcs e

unfoldable pub lists_read : Defaults → List ℕ → List ℕ → List ℕ → ListsRead
lists_read lent bytes lists dcs =
    cond (defaults_refused lent) (untouched lists dcs ListLengthInvalid)
    (cond (room_refused (length lists) (length dcs)) (untouched lists dcs OutputTooShort)
    (written lists dcs (scaling_list_data lent bytes)))

pub record Reads (r : Result ℕ Refusal) (lists dcs : List ℕ) (w : ListsRead) : Type 0 where
  pub answered : outcome 0 r ≡ w.answer
  pub lists_are : lists ≡ w.lists
  pub dcs_are : dcs ≡ w.dcs
