-- Searches for edits: what C gets, and the two buffers afterwards.
--   Finds r low high f   the record r and the buffers are what f says of the wrapped function
use Rattle.std.specs.Prelude.{◌≡◌, List, ℤ}
use Rattle.edit_search.specs.Found.{Found}
use Rattle.c_api.specs.declared.Answered.{Answered}
use Rattle.c_api.specs.Answers.{of_answered}

pub record Finds (r : Answered) (low high : List ℤ) (f : Found) : Type 0 where
  pub answered : of_answered r ≡ f.answer
  pub least : low ≡ f.least
  pub most : high ≡ f.most
