-- Calls that rebuild a block in a plane: what C gets, and the plane afterwards.
--   Rebuilds r after w   the record r and the plane `after` are what w says of the wrapped function
use Rattle.std.specs.Prelude.{◌≡◌, List, ℕ}
use Rattle.picture.specs.Rebuild.{Rebuilt}
use Rattle.c_api.specs.declared.Answered.{Answered}
use Rattle.c_api.specs.Answers.{of_answered}

pub record Rebuilds (r : Answered) (after : List ℕ) (w : Rebuilt) : Type 0 where
  pub answered : of_answered r ≡ w.answer
  pub plane : after ≡ w.plane
