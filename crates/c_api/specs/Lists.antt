-- Scaling lists: what C gets, and the buffers afterwards.
--   Reads r lists dcs w   the record r and the two buffers are what w says of the wrapped function
--   Writes r out w        the record r and the bytes written are
use Rattle.std.specs.Prelude.{◌≡◌, List, ℕ}
use Rattle.scaling_lists.specs.Answers.{ListsRead}
use Rattle.scaling_lists_writer.specs.Answers.{ListsWritten}
use Rattle.c_api.specs.declared.BitsAnswered.{BitsAnswered}
use Rattle.c_api.specs.Answers.{of_bits}

pub record Reads (r : BitsAnswered) (lists dcs : List ℕ) (w : ListsRead) : Type 0 where
  pub answered : of_bits r ≡ w.answer
  pub lists_are : lists ≡ w.lists
  pub dcs_are : dcs ≡ w.dcs

pub record Writes (r : BitsAnswered) (out : List ℕ) (w : ListsWritten) : Type 0 where
  pub answered : of_bits r ≡ w.answer
  pub out_is : out ≡ w.out
