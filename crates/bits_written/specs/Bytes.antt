-- Bits put into bytes, the high bit of each byte first, and where bits stand in bytes.
--   bits_value bits at n    the number that n bits from an index on stand for, the first one highest; a bit past the last is 0
--   byte_count n            how many bytes n bits take
--   byte_of bits k          byte k of bits
--   bytes_of bits           bits as bytes; the rest of the last byte is 0
--   Binary bits            each is 0 or 1
--   Begins bytes at bits   the bits stand in the bytes from an offset on
use Rattle.std.specs.Prelude.{◌≡◌, List, ℕ, zero, suc, ◌+◌, ◌*◌, ◌/◌, ◌≤◌, ◌<◌, length, get_or}
use Rattle.integers.specs.Lists.{tabulate}
use Rattle.bits.specs.Bits.{bit_at}

unfoldable pub bits_value : List ℕ → ℕ → ℕ → ℕ
bits_value bits at zero = 0
bits_value bits at (suc n) = 2 * bits_value bits at n + get_or bits (at + n) 0

unfoldable pub byte_count : ℕ → ℕ
byte_count n = (n + 7) / 8

unfoldable pub byte_of : List ℕ → ℕ → ℕ
byte_of bits k = bits_value bits (8 * k) 8

unfoldable pub bytes_of : List ℕ → List ℕ
bytes_of bits = tabulate (byte_count (length bits)) (byte_of bits)

pub record Binary (bits : List ℕ) : Type 0 where
  pub small : (i : ℕ) → get_or bits i 0 < 2

pub record Begins (bytes : List ℕ) (at : ℕ) (bits : List ℕ) : Type 0 where
  pub inside : at + length bits ≤ 8 * length bytes
  pub same : (i : ℕ) → i < length bits → bit_at bytes (at + i) ≡ get_or bits i 0
