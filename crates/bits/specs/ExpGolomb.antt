-- Exp-Golomb codes: H.265 clause 9.2. A code is z zeros, a one and z bits more. A code with more than 32 leading zeros is not read further.
--   leading_zeros bytes at   how many zeros stand before the first one, and 33 where there are more than 32
--   unsigned_code bytes at   ue(v): the number 2^z - 1 + the z bits, with the offset behind it; or the code is too long; or the bits end in it
--   signed_number k          se(v): 0, 1, -1, 2, -2, .. for the numbers 0, 1, 2, 3, 4, .. of ue(v)
use Rattle.std.specs.Prelude.{cond, List, ℕ, ◌+◌, ◌-◌, ◌*◌, ◌/◌, ◌%◌, ◌^◌, eqb, ltb, ℤ, pos, neg_ℤ, Result, Ok, Err}
use Rattle.integers.specs.Search.{first_where}
use Rattle.bits.specs.declared.CodeError.{CodeError}
use Rattle.bits.specs.declared.CodeError.TheVariants.{TooLong, Ended}
use Rattle.bits.specs.Bits.{is_there, bit_at, bits_number}

unfoldable pub leading_zeros : List ℕ → ℕ → ℕ
leading_zeros bytes at = first_where 33 (λ z. eqb (bit_at bytes (at + z)) 1)

-- a number and the offset behind its code, or why there is none
abbrev pub Code : Type 0
Code = Result (ℕ × ℕ) CodeError

-- a code with z leading zeros
unfoldable pub code_of : List ℕ → ℕ → ℕ → Code
code_of bytes at z =
    cond (ltb z 33)
    (cond (is_there bytes (at + 2 * z)) (Ok (2 ^ z - 1 + bits_number bytes (at + z + 1) z, at + 2 * z + 1)) (Err Ended))
    (cond (is_there bytes (at + 32)) (Err TooLong) (Err Ended))

unfoldable pub unsigned_code : List ℕ → ℕ → Code
unsigned_code bytes at = code_of bytes at (leading_zeros bytes at)

unfoldable pub signed_number : ℕ → ℤ
signed_number k = cond (eqb (k % 2) 1) (pos ((k + 1) / 2)) (neg_ℤ (pos (k / 2)))
