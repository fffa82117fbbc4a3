-- `scaling_lists_codes::dc_of` meets its contract: a number in the range gives a DC of 1 .. 255.
use mathlib.Core.Path.{sym, ◌∙◌}
use native.Mathlib.Omega.{arith}
use Rattle.bits.specs.ExpGolomb.{signed_number}
use Rattle.scaling_lists_codes.proofs.ValueLaws.{outside_wider, added_bound}
use Rattle.scaling_lists_codes.proofs.dc_of.Goals as goal

pub sum_of-requires : goal.sum_of-requires
sum_of-requires c =
    (omega arith, outside_wider (signed_number c.args.number) 7 247 8 255 (omega arith) (omega arith) (sym c.outside_of.ensures ∙ c.in_ok-check.ensures))

pub overflow_cast-result : goal.overflow_cast-result
overflow_cast-result c =
    omega (arith, c.sum_of.ensures, added_bound (signed_number c.args.number) 8 7 247 (sym c.outside_of.ensures ∙ c.in_ok-check.ensures))
