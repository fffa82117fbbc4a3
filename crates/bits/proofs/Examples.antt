-- Codes of clause 9.2 by the definitions: the first ones of its tables, the longest that is read, one that is too long, and one that is cut.
--   codes_hold     ue(v)
--   numbers_hold   se(v)
use mathlib.Core.Path.{◌≡◌, refl}
use mathlib.Core.List.{List, [], ◌∷◌, map}
use Prim.Native.Nat.{ℕ}
use lib.IntN.{pos, negsuc}
use Rattle.integers.specs.Search.{first_where}
use Rattle.std.specs.Prelude.{Ok, Err}
use Rattle.bits.specs.declared.CodeError.TheVariants.{TooLong, Ended}
use Rattle.bits.specs.Bits.{is_there, bit_at, bits_number}
use Rattle.bits.specs.ExpGolomb.{leading_zeros, code_of, unsigned_code, signed_number}

-- 1, 010, 011, 00100, 00111; 32 zeros and 33 ones; 33 zeros; 32 zeros
abbrev streams : List (List ℕ)
streams =
    (128 ∷ []) ∷ (64 ∷ []) ∷ (96 ∷ []) ∷ (32 ∷ []) ∷ (56 ∷ [])
    ∷ (0 ∷ 0 ∷ 0 ∷ 0 ∷ 255 ∷ 255 ∷ 255 ∷ 255 ∷ 128 ∷ [])
    ∷ (0 ∷ 0 ∷ 0 ∷ 0 ∷ 64 ∷ [])
    ∷ (0 ∷ 0 ∷ 0 ∷ 0 ∷ []) ∷ []

pub codes_hold : map (λ (bytes : List ℕ). unsigned_code bytes 0) streams
    ≡ Ok (0, 1) ∷ Ok (1, 3) ∷ Ok (2, 3) ∷ Ok (3, 5) ∷ Ok (6, 5) ∷ Ok (8589934590, 65) ∷ Err TooLong ∷ Err Ended ∷ []
unfolding is_there bit_at bits_number first_where leading_zeros code_of unsigned_code
codes_hold = refl

pub numbers_hold : map signed_number (0 ∷ 1 ∷ 2 ∷ 3 ∷ 4 ∷ []) ≡ pos 0 ∷ pos 1 ∷ negsuc 0 ∷ pos 2 ∷ negsuc 1 ∷ []
unfolding signed_number
numbers_hold = refl
