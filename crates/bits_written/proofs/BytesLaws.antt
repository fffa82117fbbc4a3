-- Laws of bits in bytes.
--   binary-…                  lists of bits: none, one more, two lists, zeros
--   begins_first, -second     bits of two lists: those of the first, and behind them those of the second
--   begins_there, begins_bit  the first bit stands at the offset
--   eight_long, eight_bit     eight bits as a part of the bits
--   bits_value-…, byte_of_cong  n bits stand for a number below 2^n; one bit more; bits that are equal
--   begins_bytes, begins_own  bits stand in every list of bytes that has their bytes at its start
use mathlib.Core.Path.{◌≡◌, refl, sym, ap, ap₂, ◌∙◌}
use mathlib.Core.Bool.{true}
use mathlib.Core.List.{List, [], ◌∷◌, ◌++◌}
use Prim.Native.Nat.{ℕ, zero, suc, ◌+◌, ◌-◌, ◌*◌, ◌/◌, ◌%◌, ◌^◌, ◌≤◌, ◌<◌}
use native.Mathlib.Nat.{add-zero, zero-add, not-suc-le-zero, div-one, div-div-eq-div-mul, pow-succ'}
use native.Mathlib.Decide.{ℕ_discrete}
use native.Mathlib.Numerals.{add-one}
use native.Mathlib.Omega.{arith}
use borrow.Author.Tests.{lt-ltb}
use lib.Dec.{lit<}
use lib.ListN.{length, get_or, replicate, take, drop, length-append, length-drop, get_or-append}
use lib.Seq.{get_or-append-add, get_or-take, get_or-drop, length-take-le}
use Rattle.integers.proofs.ListsLaws.{tabulate-length, tabulate-get_or}
use Rattle.bits.specs.Bits.{is_there, bit_at}
use Rattle.bits_written.specs.Bytes.{bits_value, byte_count, byte_of, bytes_of, Binary, Begins}

-- ---- lists of bits
pub binary_none : Binary []
binary_none = record { small = λ i. lit< tt }

pub binary_more : {b : ℕ} {bits : List ℕ} → b < 2 → Binary bits → Binary (b ∷ bits)
binary_more {b} {bits} h r = record { small = at }
  where
    at : (i : ℕ) → get_or (b ∷ bits) i 0 < 2
    at zero = h
    at (suc i) = r.small i

pub binary_append : (a : List ℕ) {b : List ℕ} → Binary a → Binary b → Binary (a ++ b)
binary_append [] f g = g
binary_append (x ∷ a) f g = binary_more (f.small 0) (binary_append a (record { small = λ i. f.small (suc i) }) g)

pub binary_zeros : (n : ℕ) → Binary (replicate n 0)
binary_zeros zero = binary_none
binary_zeros (suc n) = binary_more (lit< tt) (binary_zeros n)

-- ---- bits at an offset
module _ {bytes : List ℕ} {at : ℕ} (a b : List ℕ) (h : Begins bytes at (a ++ b)) where
  pub begins_first : Begins bytes at a
  begins_first =
      record {
        inside = omega (arith, h.inside, length-append a b);
        same = λ i l. h.same i (omega (arith, length-append a b)) ∙ get_or-append a b 0 i l;
      }

  pub begins_second : Begins bytes (at + length a) b
  begins_second =
      record {
        inside = omega (arith, h.inside, length-append a b);
        same = λ i l.
            let e : at + length a + i ≡ at + (length a + i) = omega arith in
            ap (bit_at bytes) e ∙ h.same (length a + i) (omega (arith, length-append a b)) ∙ get_or-append-add a b i 0;
      }

module _ {bytes : List ℕ} {at b : ℕ} {bits : List ℕ} (h : Begins bytes at (b ∷ bits)) where
  pub begins_there : is_there bytes at ≡ true
  unfolding is_there
  begins_there = lt-ltb at (8 * length bytes) (omega (arith, h.inside))

  pub begins_bit : bit_at bytes at ≡ b
  begins_bit = ap (bit_at bytes) (sym (add-zero at)) ∙ h.same 0 (omega arith)

  pub begins_rest : Begins bytes (at + 1) bits
  begins_rest = begins_second (b ∷ []) bits h

-- ---- bits as bytes
pub bits_value_small : (bits : List ℕ) (at n : ℕ) → Binary bits → bits_value bits at n < 2 ^ n
unfolding bits_value
bits_value_small bits at zero g = lit< tt
bits_value_small bits at (suc n) g = rw (pow-succ' 2 n) (omega (arith, bits_value_small bits at n g, g.small (at + n)))

pub bits_value_add_one : (bits : List ℕ) (at n : ℕ) → bits_value bits at (n + 1) ≡ 2 * bits_value bits at n + get_or bits (at + n) 0
unfolding bits_value
bits_value_add_one bits at n = ap (bits_value bits at) (add-one n)

-- the eight bits from an index on, as a part of the bits
module _ (bits : List ℕ) (at : ℕ) where
  pub eight_long : at + 8 ≤ length bits → length (take (at + 8 - at) (drop at bits)) ≡ 8
  eight_long h = length-take-le (at + 8 - at) (drop at bits) (rw length-drop (omega arith)) ∙ omega arith

  pub eight_bit : (i : ℕ) → i < 8 → get_or (take (at + 8 - at) (drop at bits)) i 0 ≡ get_or bits (at + i) 0
  eight_bit i h = get_or-take (at + 8 - at) (drop at bits) i 0 (omega arith) ∙ get_or-drop at bits i 0

value_cong : (a b : List ℕ) (at n : ℕ) → ((i : ℕ) → get_or a i 0 ≡ get_or b i 0) → bits_value a at n ≡ bits_value b at n
unfolding bits_value
value_cong a b at zero h = refl
value_cong a b at (suc n) h = ap₂ (λ (v c : ℕ). 2 * v + c) (value_cong a b at n h) (h (at + n))

pub byte_of_cong : (a b : List ℕ) (k : ℕ) → ((i : ℕ) → get_or a i 0 ≡ get_or b i 0) → byte_of a k ≡ byte_of b k
unfolding byte_of
byte_of_cong a b k h = value_cong a b (8 * k) 8 h

-- a bit of the number that n bits stand for
halved : (v b : ℕ) (k : ℕ) → b < 2 → (2 * v + b) / 2 ^ suc k ≡ v / 2 ^ k
halved v b k h =
    let e : (2 * v + b) / 2 ≡ v = omega arith in
    ap (λ (p : ℕ). (2 * v + b) / p) (pow-succ' 2 k) ∙ sym (div-div-eq-div-mul (2 * v + b) 2 (2 ^ k)) ∙ ap (λ (q : ℕ). q / 2 ^ k) e

bit_of : (bits : List ℕ) (at n r : ℕ) → Binary bits → r < n → bits_value bits at n / 2 ^ (n - 1 - r) % 2 ≡ get_or bits (at + r) 0
unfolding bits_value
bit_of bits at zero r g h = absurd (not-suc-le-zero h)
bit_of bits at (suc n) r g h =
    elim (ℕ_discrete r n) [
      | yes q ↦ let e : suc n - 1 - r ≡ 0 = omega arith in rw (e, div-one, q) (omega (arith, g.small (at + n)))
      | no q ↦ let e : suc n - 1 - r ≡ suc (n - 1 - r) = omega arith in
          rw (e, halved (bits_value bits at n) (get_or bits (at + n) 0) (n - 1 - r) (g.small (at + n))) (bit_of bits at n r g (omega arith))
    ]

pub begins_bytes : (bits bytes : List ℕ) → Binary bits → byte_count (length bits) ≤ length bytes
    → ((k : ℕ) → k < byte_count (length bits) → get_or bytes k 0 ≡ byte_of bits k) → Begins bytes 0 bits
unfolding byte_count byte_of bit_at
begins_bytes bits bytes g room is = record { inside = omega arith; same = at }
  where
    at : (i : ℕ) → i < length bits → bit_at bytes (0 + i) ≡ get_or bits i 0
    at i h =
        ap (bit_at bytes) (zero-add i)
        ∙ ap (λ (b : ℕ). b / 2 ^ (7 - i % 8) % 2) (is (i / 8) (omega arith))
        ∙ bit_of bits (8 * (i / 8)) 8 (i % 8) g (omega arith)
        ∙ ap (λ (k : ℕ). get_or bits k 0) (omega arith)

pub begins_own : (bits : List ℕ) → Binary bits → Begins (bytes_of bits) 0 bits
unfolding bytes_of
begins_own bits g =
    begins_bytes bits (bytes_of bits) g (rw tabulate-length (omega arith))
    (λ k h. tabulate-get_or (byte_count (length bits)) (byte_of bits) k 0 h)
