-- Exp-Golomb codes as they are written: H.265 clause 9.2. A code is a list of bits, each 0 or 1.
--   bits_of n v        n bits of v, the highest first
--   zeros_of v         the z with 2^z ≤ v + 1 < 2^(z + 1), where it is below 32
--   unsigned_bits v    ue(v): z zeros, a one, and v + 1 - 2^z in z bits
--   code_number k      the number of ue(v) that stands for k in se(v): 0, 1, 2, 3, 4, .. for 0, 1, -1, 2, -2, ..
--   signed_bits k      se(v)
use Rattle.std.specs.Prelude.{List, [], ◌∷◌, ◌++◌, ℕ, zero, suc, ◌+◌, ◌-◌, ◌*◌, ◌/◌, ◌%◌, ◌^◌, ltb, ℤ, pos, negsuc, replicate}
use Rattle.integers.specs.Search.{first_where}

unfoldable pub bits_of : ℕ → ℕ → List ℕ
bits_of zero v = []
bits_of (suc n) v = bits_of n (v / 2) ++ (v % 2 ∷ [])

unfoldable pub zeros_of : ℕ → ℕ
zeros_of v = first_where 32 (λ z. ltb (v + 1) (2 ^ (z + 1)))

unfoldable pub unsigned_bits : ℕ → List ℕ
unsigned_bits v = replicate (zeros_of v) 0 ++ (1 ∷ bits_of (zeros_of v) (v + 1 - 2 ^ zeros_of v))

unfoldable pub code_number : ℤ → ℕ
code_number (pos n) = 2 * n - 1
code_number (negsuc n) = 2 * suc n

unfoldable pub signed_bits : ℤ → List ℕ
signed_bits k = unsigned_bits (code_number k)
