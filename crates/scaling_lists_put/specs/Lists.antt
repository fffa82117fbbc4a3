-- The lists that are to be written, as calls hand them on.
--   set_refused lists dcs   row 5: there are fewer than 20 × 64 entries or fewer than 20 DC numbers to write
--   set_lists s             the 20 lists of a set
--   factor_list l           one list
--   Nearest lists j r       a search answers how many lists stand between list j and the nearest earlier one that is the same, or none
use Rattle.std.specs.Prelude.{◌≡◌, Bool, ◌||◌, List, Option, Some, None, ℕ, ◌<◌, ltb}
use Rattle.scaling_lists_codes.specs.Syntax.{FactorList}
use Rattle.scaling_lists_taken.specs.Held.{held}
use Rattle.scaling_lists_written.specs.Written.{earlier, nearest}
use Rattle.scaling_lists_put.specs.declared.set.ListSet.{ListSet}
use Rattle.scaling_lists_put.specs.declared.set.HeldList.{HeldList}

unfoldable pub set_refused : ℕ → ℕ → Bool
set_refused lists dcs = ltb lists 1280 || ltb dcs 20

abbrev pub set_lists : ListSet → List FactorList
set_lists s = held 20 s.lists.now s.dcs.now

abbrev pub factor_list : HeldList → FactorList
factor_list l = record { entries = l.entries.now; dc = l.dc }

-- a search for the nearest earlier list that is the same
abbrev pub Nearest : List FactorList → ℕ → Option ℕ → Type 0
Nearest lists j None = nearest lists j ≡ earlier j
Nearest lists j (Some d) = (nearest lists j ≡ d) × (d < earlier j)
