-- The block tools: how C says the way of accumulation.
--   accumulate_of   0 none, 1 along rows, any other number down columns
use Rattle.std.specs.Prelude.{ℕ, zero, suc}
use Rattle.block_tool_rules.specs.declared.Accumulate.{Accumulate}
use Rattle.block_tool_rules.specs.declared.Accumulate.TheVariants.{Off, AlongRows, DownColumns}

abbrev pub accumulate_of : ℕ → Accumulate
accumulate_of zero = Off
accumulate_of (suc zero) = AlongRows
accumulate_of (suc (suc k)) = DownColumns
