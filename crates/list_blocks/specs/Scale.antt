-- A block scaled by a number of a stream, refused calls included. Change request R-10, and rows 1, 2, 3, 6, 7 and 18 of the table.
-- Letters: d which stream, s its places, i a number, k a block.
--   Work               coefficients, or the residuals of transform skip
--   Block              what is scaled: work, the output's width, size, QP', depth, flag and levels
--   list_of p           the list and the DC of a place
--   given r             the outcome of a call that hands back a list, and none on refusal
--   list_answer          the list of a number for a block: refuses what the library's functions refuse, then 7 for the table, then 18
--   library_block       what the library's functions with a list have as their contracts, for a block
--   scale_answer        refuses the same; else the library's block, count of limited coefficients included, with the list and the DC of the number
use Rattle.std.specs.Prelude.{Bool, List, ℕ, ℤ, length, Result, Ok, Err}
use Rattle.h265.specs.ScalingFactor.{ScalingList}
use Rattle.h265.specs.ScalingFactor.ScalingList.{flat, listed}
use Rattle.refusal.specs.declared.Refusal.{Refusal}
use Rattle.refusal.specs.Outcome.{Outcome, accepted, refused}
use Rattle.scaling_values.specs.declared.ScalingList.{ScalingList as Given}
use Rattle.scaling_values.specs.Given.{list_of as list_given}
use Rattle.scaling_blocks.specs.Blocks.{scaling_ladder, dequantized, transform_skipped, CountWritten, left_as_lent}
use Rattle.list_places.specs.Stream.{Place, Stream, numbered, number_ladder}
use Rattle.list_places.specs.Stream.Place.{free, held}

pub data Work : Type 0 where
  coefficients : Work
  residuals : Work

pub record Block : Type 0 where
  pub work : Work
  pub narrow : Bool
  pub size : ℕ
  pub qp : ℤ
  pub depth : ℕ
  pub extended : Bool
  pub levels : List ℤ

abbrev pub block : Work → Bool → ℕ → ℤ → ℕ → Bool → List ℤ → Block
block work narrow n q b x levels =
    record { work = work; narrow = narrow; size = n; qp = q; depth = b; extended = x; levels = levels }

abbrev pub list_of : Place → ScalingList
list_of free = flat
list_of (held entries dc) = listed entries dc

abbrev pub given : Result Given Refusal → Outcome ScalingList
given (Ok list) = accepted (list_given list)
given (Err e) = refused flat e

-- a place has 64 entries, so row 5 never applies
unfoldable pub list_answer : Bool → ℕ → ℕ → Bool → ℕ → ℕ → Bool → ℕ → Stream → ℕ → Outcome ScalingList
list_answer narrow n b x levels places short d s i =
    scaling_ladder (refused flat) (number_ladder (refused flat) (accepted (list_of (numbered s i))) short d s i) narrow n b x 64 levels places

abbrev pub by_work : Work → Bool → ScalingList → ℕ → ℤ → ℕ → Bool → List ℤ → List ℤ → CountWritten
by_work coefficients = dequantized
by_work residuals = transform_skipped

abbrev pub library_block : Block → ScalingList → List ℤ → CountWritten
library_block k list out = by_work k.work k.narrow list k.size k.qp k.depth k.extended k.levels out

unfoldable pub scale_answer : Bool → ℕ → Stream → ℕ → Block → List ℤ → CountWritten
scale_answer short d s i k out =
    scaling_ladder (left_as_lent out)
    (number_ladder (left_as_lent out) (library_block k (list_of (numbered s i)) out) short d s i)
    k.narrow k.size k.depth k.extended 64 (length k.levels) (length out)
