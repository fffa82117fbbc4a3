-- The default lists that are lent to a call.
--   lent_lists d   as the syntax has them
use Rattle.scaling_lists_codes.specs.Syntax.{Defaults, defaults}
use Rattle.scaling_lists_taken.specs.declared.lent.DefaultLists.{DefaultLists}

abbrev pub lent_lists : DefaultLists → Defaults
lent_lists d = defaults d.four.now d.intra.now d.inter.now
