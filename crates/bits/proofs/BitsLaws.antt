-- Laws of bytes as bits.
--   is_there_byte       a bit is there where its byte is
--   bit_at_small, bit_at_past   a bit is 0 or 1, and 0 past the end
--   bits_number_small   n bits stand for a number below 2^n
--   bits_number_add_one   one bit more
use mathlib.Core.Path.{◌≡◌, refl, sym, ap, ◌∙◌}
use mathlib.Core.Bool.{Bool, true, false}
use mathlib.Core.List.{List}
use Prim.Native.Nat.{ℕ, zero, suc, ◌+◌, ◌-◌, ◌*◌, ◌/◌, ◌%◌, ◌^◌, ◌≤◌, ◌<◌}
use native.Mathlib.Nat.{mod-lt, zero-div, pow-succ'}
use native.Mathlib.Numerals.{add-one}
use native.Mathlib.Omega.{arith}
use borrow.Author.Tests.{ltb-true, ltb-false, lt-ltb, le-ltb}
use lib.Dec.{ltb, lit<}
use lib.ListN.{length, get_or, get_or-eq_default}
use Rattle.bits.specs.Bits.{is_there, bit_at, bits_number}

pub is_there_byte : (bytes : List ℕ) (at : ℕ) → ltb (at / 8) (length bytes) ≡ is_there bytes at
unfolding is_there
is_there_byte bytes at = by_test (ltb (at / 8) (length bytes)) refl
  where
    by_test : (b : Bool) → ltb (at / 8) (length bytes) ≡ b → b ≡ ltb at (8 * length bytes)
    by_test true e = sym (lt-ltb at (8 * length bytes) (omega (arith, ltb-true (at / 8) (length bytes) e)))
    by_test false e = sym (le-ltb at (8 * length bytes) (omega (arith, ltb-false (at / 8) (length bytes) e)))

pub bit_at_small : (bytes : List ℕ) (at : ℕ) → bit_at bytes at < 2
unfolding bit_at
bit_at_small bytes at = mod-lt (get_or bytes (at / 8) 0 / 2 ^ (7 - at % 8)) (lit< tt)

pub bit_at_past : (bytes : List ℕ) (at : ℕ) → length bytes ≤ at / 8 → bit_at bytes at ≡ 0
unfolding bit_at
bit_at_past bytes at h =
    ap (λ (b : ℕ). b / 2 ^ (7 - at % 8) % 2) (get_or-eq_default bytes 0 h) ∙ ap (λ (b : ℕ). b % 2) (zero-div (2 ^ (7 - at % 8)))

pub bits_number_small : (bytes : List ℕ) (at n : ℕ) → bits_number bytes at n < 2 ^ n
unfolding bits_number
bits_number_small bytes at zero = lit< tt
bits_number_small bytes at (suc n) =
    rw (pow-succ' 2 n) (omega (arith, bits_number_small bytes at n, bit_at_small bytes (at + n)))

pub bits_number_add_one : (bytes : List ℕ) (at n : ℕ) → bits_number bytes at (n + 1) ≡ 2 * bits_number bytes at n + bit_at bytes (at + n)
unfolding bits_number
bits_number_add_one bytes at n = ap (bits_number bytes at) (add-one n)
