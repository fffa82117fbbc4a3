-- The plain range is that of 16 bits.
--   range_plain             R is 15 without extended precision
--   inside_fits, fits_inside   a number of the plain range fits 16 bits, and the reverse
--   none_outside            no coefficient of 16 bits lies outside the plain range
use mathlib.Core.Path.{◌≡◌, refl, sym, ap₂}
use mathlib.Core.Bool.{Bool, true, false, ◌||◌, ◌&&◌}
use mathlib.Core.List.{List}
use Prim.Native.Nat.{ℕ, ◌*◌, ◌%◌, ◌≤◌}
use native.Mathlib.Omega.{arith}
use native.Mathlib.Nat.{le_refl, le_of_eq}
use lib.Dec.{ltb}
use lib.IntN.{ℤ, pos, negsuc}
use lib.ListN.{get_or}
use lib.Signed.{◌≤ℤ◌}
use mir.Syntax.{w16}
use mir.Val.{SFits}
use Rattle.integers.proofs.LinearLaws.{le_in, le_out}
use Rattle.integers.proofs.MachineLaws.{lt_z_of_le}
use Rattle.integers.proofs.SearchLaws.{None, first_where-none}
use Rattle.h265.specs.Range.{transform_range, coeff_min, coeff_max, outside_range}
use Rattle.h265.proofs.RangeLaws.{outside_range_false}
use Rattle.coefficients.specs.Outside.{outside_at, first_outside}
use Rattle.integers.specs.Within.{Narrow}

pub range_plain : (b : ℕ) → transform_range b Bool.false ≡ 15
unfolding transform_range
range_plain b = refl

pub fits_inside : (z : ℤ) → SFits w16 z → outside_range 15 z ≡ false
unfolding outside_range coeff_min coeff_max
fits_inside (pos a) f = ap₂ ◌||◌ (lt_z_of_le (le_out (negsuc 32767) (pos a) (omega arith))) (lt_z_of_le (le_out (pos a) (pos 32767) (omega (arith, f.sfits))))
fits_inside (negsuc a) f = ap₂ ◌||◌ (lt_z_of_le (le_out (negsuc 32767) (negsuc a) (omega (arith, f.sfits)))) (lt_z_of_le (le_out (negsuc a) (pos 32767) (omega arith)))

between : (z : ℤ) → negsuc 32767 ≤ℤ z → z ≤ℤ pos 32767 → SFits w16 z
between (pos a) h k = record { sfits = omega (arith, le_in k) }
between (negsuc a) h k = record { sfits = omega (arith, le_in h) }

pub inside_fits : (z : ℤ) → outside_range 15 z ≡ false → SFits w16 z
unfolding coeff_min coeff_max
inside_fits z e = let h = outside_range_false 15 z e in between z h.0 h.1

pub none_outside : (n nx : ℕ) (xs : List ℤ) → Narrow (n * n) xs → n * n ≤ first_outside 15 n nx xs
unfolding first_outside outside_at
none_outside n nx xs f = le_of_eq (sym (first_where-none (n * n) (le_refl (n * n)) none))
  where
    read : (s : Bool) (t : Bool) → t ≡ false → s && t ≡ false
    read true t e = e
    read false t e = refl

    none : None (outside_at 15 n nx xs) (n * n)
    none = record { at = λ i h. read (ltb (i % n) nx) (outside_range 15 (get_or xs i (pos 0))) (fits_inside (get_or xs i (pos 0)) (f.at i h)) }
