-- What stands for one scaled level where the call is refused.
--   no_level   zeros
use Rattle.std.specs.Prelude.{false, pos}
use Rattle.scaling_values.specs.declared.ScaledLevel.{ScaledLevel}

abbrev pub no_level : ScaledLevel
no_level = record { value = pos 0; level_limited = false; result_limited = false }
