-- The lookup of m. docs/RULES.md, "Scaling", and rows 1, 5 and 8 of its table.
--   scaling_coeff entries d n i   the answer at index i of a block of size n, for a list with DC number d
use Rattle.std.specs.Prelude.{cond, List, ℕ, ◌*◌, leb, length}
use Rattle.h265.specs.ScalingFactor.{scaling_factor}
use Rattle.h265.specs.ScalingFactor.ScalingList.{listed}
use Rattle.refusal.specs.declared.Refusal.TheVariants.{SizeInvalid, ListLengthInvalid, PlaceOutside}
use Rattle.refusal.specs.Condition.{size_refused, list_refused}
use Rattle.refusal.specs.Outcome.{Outcome, accepted, refused}

unfoldable pub scaling_coeff : List ℕ → ℕ → ℕ → ℕ → Outcome ℕ
scaling_coeff entries d n i =
    cond (size_refused n) (refused 0 SizeInvalid)
    (cond (list_refused (length entries)) (refused 0 ListLengthInvalid)
    (cond (leb (n * n) i) (refused 0 PlaceOutside)
    (accepted (scaling_factor (listed entries d) n i))))
