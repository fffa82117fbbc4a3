-- Codes of clause 9.2 as they are written: the first ones of its tables, and bits as bytes.
--   codes_hold     ue(v) of 0, 1, 2, 3, 6, 7
--   numbers_hold   the numbers of ue(v) that se(v) 0, 1, -1, 2, -2 take
--   bytes_hold     nine bits are two bytes
use mathlib.Core.Path.{◌≡◌, refl}
use mathlib.Core.List.{[], ◌∷◌, map}
use lib.IntN.{pos, negsuc}
use Rattle.integers.specs.Lists.{tabulate_from, tabulate}
use Rattle.integers.specs.Search.{first_where}
use Rattle.bits_written.specs.Codes.{bits_of, zeros_of, unsigned_bits, code_number}
use Rattle.bits_written.specs.Bytes.{bits_value, byte_count, byte_of, bytes_of}

pub codes_hold : map unsigned_bits (0 ∷ 1 ∷ 2 ∷ 3 ∷ 6 ∷ 7 ∷ [])
    ≡ (1 ∷ []) ∷ (0 ∷ 1 ∷ 0 ∷ []) ∷ (0 ∷ 1 ∷ 1 ∷ []) ∷ (0 ∷ 0 ∷ 1 ∷ 0 ∷ 0 ∷ []) ∷ (0 ∷ 0 ∷ 1 ∷ 1 ∷ 1 ∷ []) ∷ (0 ∷ 0 ∷ 0 ∷ 1 ∷ 0 ∷ 0 ∷ 0 ∷ []) ∷ []
unfolding first_where bits_of zeros_of unsigned_bits
codes_hold = refl

pub numbers_hold : map code_number (pos 0 ∷ pos 1 ∷ negsuc 0 ∷ pos 2 ∷ negsuc 1 ∷ []) ≡ 0 ∷ 1 ∷ 2 ∷ 3 ∷ 4 ∷ []
unfolding code_number
numbers_hold = refl

pub bytes_hold : bytes_of (1 ∷ 0 ∷ 0 ∷ 0 ∷ 0 ∷ 0 ∷ 1 ∷ 1 ∷ 1 ∷ []) ≡ 131 ∷ 128 ∷ []
unfolding tabulate tabulate_from bits_value byte_count byte_of bytes_of
bytes_hold = refl
