-- Bytes as bits, the high bit of each byte first. An offset counts bits from the first byte's high bit.
--   is_there bytes at        the bytes reach to the bit at the offset
--   bit_at bytes at          that bit, and 0 past the end
--   bits_number bytes at n   the number that n bits from the offset on stand for, the first one highest
use Rattle.std.specs.Prelude.{Bool, List, ℕ, zero, suc, ◌+◌, ◌-◌, ◌*◌, ◌/◌, ◌%◌, ◌^◌, ltb, length, get_or}

unfoldable pub is_there : List ℕ → ℕ → Bool
is_there bytes at = ltb at (8 * length bytes)

unfoldable pub bit_at : List ℕ → ℕ → ℕ
bit_at bytes at = get_or bytes (at / 8) 0 / 2 ^ (7 - at % 8) % 2

unfoldable pub bits_number : List ℕ → ℕ → ℕ → ℕ
bits_number bytes at zero = 0
bits_number bytes at (suc n) = 2 * bits_number bytes at n + bit_at bytes (at + n)
