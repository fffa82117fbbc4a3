-- Calls that write a block: what C gets, and the output afterwards.
--   Writes r after w        the record r and the output `after` are what w says of the wrapped function
--   CountWrites r after w   the same of a function that scales, and says how many coefficients were limited
use Rattle.std.specs.Prelude.{◌≡◌, List, ℤ}
use Rattle.refusal.specs.Written.{Written}
use Rattle.scaling_blocks.specs.Blocks.{CountWritten}
use Rattle.c_api.specs.declared.Answered.{Answered}
use Rattle.c_api.specs.declared.CountAnswered.{CountAnswered}
use Rattle.c_api.specs.Answers.{of_answered, of_count}

pub record Writes (r : Answered) (after : List ℤ) (w : Written) : Type 0 where
  pub answered : of_answered r ≡ w.answer
  pub out : after ≡ w.out

pub record CountWrites (r : CountAnswered) (after : List ℤ) (w : CountWritten) : Type 0 where
  pub answered : of_count r ≡ w.answer
  pub out : after ≡ w.out
