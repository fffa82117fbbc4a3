-- The scaling factor m. docs/RULES.md, "Scaling"; H.265, clauses 7.4.5 and 8.6.3.
-- A list has 64 entries at every size. An index counts the places of the block in row order.
--   ScalingList             no list, or a list of entries with its DC number
--   FactorSource            the rule that supplies m, with the position in the list where the rule has one
--   factor_source list n i   the rule for index i of a block of size n
--   scaling_factor list n i  m: what that rule supplies
use Rattle.std.specs.Prelude.{cond, List, ℕ, ◌+◌, ◌-◌, ◌*◌, ◌/◌, ◌%◌, ◌^◌, eqb, get_or}
use Rattle.h265.specs.Range.{log2_size}

pub data ScalingList : Type 0 where
  flat : ScalingList
  listed : List ℕ → ℕ → ScalingList

-- no list; an entry of size 4 or of size 8, at the block's own index; the DC number; an entry that stands for several indices
pub data FactorSource : Type 0 where
  none : FactorSource
  four : ℕ → FactorSource
  eight : ℕ → FactorSource
  dc : FactorSource
  repeated : ℕ → FactorSource

-- at sizes 16 and 32: (row >> (L-3)) × 8 + (column >> (L-3))
unfoldable pub repeated_position : ℕ → ℕ → ℕ
repeated_position n i = i / n / 2 ^ (log2_size n - 3) * 8 + i % n / 2 ^ (log2_size n - 3)

unfoldable pub factor_source : ScalingList → ℕ → ℕ → FactorSource
factor_source flat n i = none
factor_source (listed entries d) n i =
    cond (eqb n 4) (four i)
    (cond (eqb n 8) (eight i)
    (cond (eqb i 0) dc (repeated (repeated_position n i))))

unfoldable pub entry_of : ScalingList → ℕ → ℕ
entry_of flat p = 16
entry_of (listed entries d) p = get_or entries p 0

unfoldable pub dc_of : ScalingList → ℕ
dc_of flat = 16
dc_of (listed entries d) = d

unfoldable pub factor_by : ScalingList → FactorSource → ℕ
factor_by list none = 16
factor_by list (four p) = entry_of list p
factor_by list (eight p) = entry_of list p
factor_by list dc = dc_of list
factor_by list (repeated p) = entry_of list p

unfoldable pub scaling_factor : ScalingList → ℕ → ℕ → ℕ
scaling_factor list n i = factor_by list (factor_source list n i)
