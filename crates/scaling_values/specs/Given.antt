-- What gives m, in the words of h265's ScalingFactor.
--   list_of    no list, or a list as it stands
--   entries_of how many entries it has; row 5 applies to a list alone, so that 64 entries of none refuse nothing
use Rattle.std.specs.Prelude.{ℕ, length}
use Rattle.h265.specs.ScalingFactor.{ScalingList}
use Rattle.h265.specs.ScalingFactor.ScalingList.{flat, listed}
use Rattle.scaling_values.specs.declared.ScalingList.{ScalingList as Given}
use Rattle.scaling_values.specs.declared.ScalingList.TheVariants.{Flat, Listed}

abbrev pub list_of : Given → ScalingList
list_of Flat = flat
list_of (Listed entries d) = listed entries.now d

abbrev pub entries_of : ScalingList → ℕ
entries_of flat = 64
entries_of (listed entries d) = length entries
