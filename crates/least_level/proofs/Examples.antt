-- Examples of the definitions, over ranges small enough to ask every level: the coefficient, then the level that gives it, where one does.
-- At R = 4 and s = 5 a level is scaled up, so that coefficients are left out and the ends are reached early; at s = 8 it is scaled down, so that
-- several levels give one coefficient, and the least on each side is found; m = 0 gives 0 alone.
use Rattle.std.proofs.Common.{Option, None, Some, cond, refl}
use mathlib.Core.List.{List, [], ◌∷◌}
use Prim.Native.Nat.{ℕ}
use lib.IntN.{ℤ, pos, negsuc}
use Rattle.integers.specs.Clip.{clip3}
use Rattle.integers.specs.Examples.{Case, AllHold}
use Rattle.integers.specs.Search.{first_where}
use Rattle.integers.specs.Shift.{shift_right, round_shift}
use Rattle.h265.specs.Range.{coeff_min, coeff_max, clip_coeff, outside_range}
use Rattle.h265.specs.Quantization.{level_scale, scale_of_qp}
use Rattle.h265.specs.Scaling.{scaled_value, scale_level}
use Rattle.least_level.specs.Level.{equal, gives, least_size, level_missing, least_level}

-- the level for a coefficient at QP' 0, where there is one
level_for : ℕ → ℕ → ℕ → ℤ → Option ℤ
level_for r s m x = let f : ℤ → ℤ = scale_level r s 0 m in cond (level_missing f r x) None (Some (least_level f r x))

up : ℕ → ℤ → Option ℤ → Case (Option ℤ)
up m x level = record { found = level_for 4 5 m x; expected = level }

down : ℤ → Option ℤ → Case (Option ℤ)
down x level = record { found = level_for 4 8 1 x; expected = level }

pub examples : List (Case (Option ℤ))
unfolding up down
examples =
    up 16 (pos 0) (Some (pos 0))
    ∷ up 16 (pos 15) (Some (pos 1))
    ∷ up 16 (negsuc 15) (Some (negsuc 0))
    ∷ up 16 (pos 7) None
    ∷ up 16 (pos 16) None
    ∷ up 16 (negsuc 16) None
    ∷ up 1 (pos 1) (Some (pos 1))
    ∷ up 1 (pos 2) None
    ∷ up 1 (pos 3) (Some (pos 2))
    ∷ up 0 (pos 0) (Some (pos 0))
    ∷ up 0 (pos 1) None
    ∷ down (pos 0) (Some (pos 0))
    ∷ down (pos 1) (Some (pos 4))
    ∷ down (negsuc 0) (Some (negsuc 3))
    ∷ down (pos 2) (Some (pos 10))
    ∷ down (negsuc 1) (Some (negsuc 9))
    ∷ down (pos 3) None
    ∷ down (negsuc 2) None
    ∷ []

pub examples_hold : AllHold examples
unfolding examples up down level_for level_missing least_level least_size gives equal first_where outside_range coeff_min coeff_max clip_coeff clip3 scale_level scaled_value round_shift shift_right scale_of_qp level_scale
examples_hold = refl
