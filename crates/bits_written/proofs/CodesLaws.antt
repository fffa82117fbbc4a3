-- Codes that are written are read again.
--   bits_of_length, bits_of_front   n bits; the highest bit first
--   unsigned_length               ue(v) has 2z + 1 bits
--   unsigned_read                 ue(v) is read as its number, which ends behind its bits
--   code_number_signed             se(v) is read as its number
--   unsigned_binary               a code is bits
use mathlib.Core.Path.{◌≡◌, refl, sym, ap, ◌∙◌}
use mathlib.Core.Bool.{Bool, true, false}
use mathlib.Core.List.{List, [], ◌∷◌, ◌++◌}
use Prim.Native.Nat.{ℕ, zero, suc, ◌+◌, ◌-◌, ◌*◌, ◌/◌, ◌%◌, ◌^◌, ◌≤◌, ◌<◌}
use native.Mathlib.Nat.{pow-succ', two-pow-succ, div-div-eq-div-mul, mod-lt, one-le-pow}
use native.Mathlib.Numerals.{add-one}
use native.Mathlib.Omega.{arith}
use borrow.Author.Tests.{ltb-true, ltb-false, lt-ltb, eq-eqb, ne_eqb}
use Rattle.std.specs.Prelude.{Ok}
use lib.Dec.{eqb, ltb, lit<}
use lib.IntN.{ℤ, pos, negsuc}
use lib.ListN.{length, replicate, length-append, length-replicate, get_or-replicate}
use Rattle.integers.proofs.SearchLaws.{None, First, first_where_first, first_where_found}
use Rattle.bits.specs.Bits.{is_there, bit_at, bits_number}
use Rattle.bits.specs.ExpGolomb.{leading_zeros, unsigned_code, signed_number}
use Rattle.bits.proofs.ExpGolombLaws.{code_number_lem}
use Rattle.bits_written.specs.Codes.{bits_of, zeros_of, unsigned_bits, code_number}
use Rattle.bits_written.specs.Bytes.{Binary, Begins}
use Rattle.bits_written.proofs.BytesLaws.{binary_none, binary_more, binary_append, binary_zeros, begins_first, begins_second, begins_bit, begins_rest}

-- ---- n bits of a number
pub bits_of_length : (n v : ℕ) → length (bits_of n v) ≡ n
unfolding bits_of
bits_of_length zero v = refl
bits_of_length (suc n) v = length-append (bits_of n (v / 2)) (v % 2 ∷ []) ∙ ap (λ (k : ℕ). k + 1) (bits_of_length n (v / 2)) ∙ add-one n

pub bits_of_front : (n v : ℕ) → bits_of (suc n) v ≡ v / 2 ^ n % 2 ∷ bits_of n v
unfolding bits_of
bits_of_front zero v = ap (λ (k : ℕ). k % 2 ∷ []) (omega arith)
bits_of_front (suc n) v =
    ap (λ (l : List ℕ). l ++ (v % 2 ∷ [])) (bits_of_front n (v / 2))
    ∙ ap (λ (k : ℕ). k % 2 ∷ bits_of (suc n) v) (div-div-eq-div-mul v 2 (2 ^ n) ∙ ap (λ (k : ℕ). v / k) (sym (pow-succ' 2 n)))

bits_of_binary : (n v : ℕ) → Binary (bits_of n v)
unfolding bits_of
bits_of_binary zero v = binary_none
bits_of_binary (suc n) v = binary_append (bits_of n (v / 2)) (bits_of_binary n (v / 2)) (binary_more (mod-lt v (lit< tt)) binary_none)

bits_read : (bytes : List ℕ) (at n v : ℕ) → v < 2 ^ n → Begins bytes at (bits_of n v) → bits_number bytes at n ≡ v
unfolding bits_number bits_of
bits_read bytes at zero v h g = omega arith
bits_read bytes at (suc n) v h g =
    let last : bit_at bytes (at + n) ≡ v % 2 = rw bits_of_length at (begins_bit (begins_second (bits_of n (v / 2)) (v % 2 ∷ []) g)) in
    rw (bits_read bytes at n (v / 2) (omega (arith, pow-succ' 2 n)) (begins_first (bits_of n (v / 2)) (v % 2 ∷ []) g), last) (omega arith)

-- ---- ue(v)
pub record Zeros (v z : ℕ) : Type 0 where
  pub few : z < 32
  pub least : 2 ^ z ≤ v + 1
  pub most : v + 1 < 2 ^ z + 2 ^ z

module _ (v : ℕ) (small : v + 1 < 2 ^ 32) where
  zeros_few : (z : ℕ) → First 32 (λ i. ltb (v + 1) (2 ^ (i + 1))) z → z < 32
  zeros_few z f = by_test (ltb z 32) refl
    where
      by_test : (b : Bool) → ltb z 32 ≡ b → z < 32
      by_test true e = ltb-true z 32 e
      by_test false e =
          let h = ltb-false z 32 e in
          absurd (let b : ⊥ = omega (arith, ltb-false (v + 1) (2 ^ 32) (f.before.at 31 (omega arith))) in b)

  zeros_least : (z : ℕ) → None (λ i. ltb (v + 1) (2 ^ (i + 1))) z → 2 ^ z ≤ v + 1
  zeros_least zero f = omega arith
  zeros_least (suc y) f = rw (← add-one y) (ltb-false (v + 1) (2 ^ (y + 1)) (f.at y (omega arith)))

  zeros_most : (z : ℕ) → ltb (v + 1) (2 ^ (z + 1)) ≡ true → v + 1 < 2 ^ z + 2 ^ z
  zeros_most z e = omega (arith, ltb-true (v + 1) (2 ^ (z + 1)) e, ap (λ (k : ℕ). 2 ^ k) (add-one z), two-pow-succ z)

  pub zeros_of_lem : Zeros v (zeros_of v)
  unfolding zeros_of
  zeros_of_lem =
      let f = first_where_first 32 (λ z. ltb (v + 1) (2 ^ (z + 1))) in
      let few = zeros_few (zeros_of v) f in
      record { few = few; least = zeros_least (zeros_of v) f.before; most = zeros_most (zeros_of v) (f.holds few) }

module _ (v : ℕ) (small : v + 1 < 2 ^ 32) where
  pub unsigned_length : length (unsigned_bits v) ≡ 2 * zeros_of v + 1
  unfolding unsigned_bits
  unsigned_length = simp (length-append, length-replicate, bits_of_length) (omega arith)

pub unsigned_binary : (v : ℕ) → Binary (unsigned_bits v)
unfolding unsigned_bits
unsigned_binary v =
    binary_append (replicate (zeros_of v) 0) (binary_zeros (zeros_of v)) (binary_more (lit< tt) (bits_of_binary (zeros_of v) (v + 1 - 2 ^ zeros_of v)))

module _ (v z : ℕ) (is : Zeros v z) (bytes : List ℕ) (at : ℕ) (g : Begins bytes at (replicate z 0 ++ (1 ∷ bits_of z (v + 1 - 2 ^ z)))) where
  one_bit : Begins bytes (at + z) (1 ∷ bits_of z (v + 1 - 2 ^ z))
  one_bit = rw length-replicate at (begins_second (replicate z 0) (1 ∷ bits_of z (v + 1 - 2 ^ z)) g)

  zero_bits : None (λ i. eqb (bit_at bytes (at + i)) 1) z
  zero_bits =
      record {
        at = λ i h.
            let e : bit_at bytes (at + i) ≡ 0 = (begins_first (replicate z 0) (1 ∷ bits_of z (v + 1 - 2 ^ z)) g).same i (rw length-replicate h) ∙ get_or-replicate z i 0 0 h in
            ne_eqb (bit_at bytes (at + i)) 1 (λ o. omega (arith, e, o));
      }

  leading : z ≡ leading_zeros bytes at
  unfolding leading_zeros
  leading = sym (first_where_found 33 z (omega (arith, is.few)) zero_bits (eq-eqb (bit_at bytes (at + z)) 1 (begins_bit one_bit)))

  code_read : Ok (v, at + 2 * z + 1) ≡ unsigned_code bytes at
  unfolding is_there
  code_read =
      let b = begins_rest one_bit in
      let n : bits_number bytes (at + z + 1) z ≡ v + 1 - 2 ^ z = bits_read bytes (at + z + 1) z (v + 1 - 2 ^ z) (omega (arith, is.most)) b in
      let e : v ≡ 2 ^ z - 1 + (v + 1 - 2 ^ z) = omega (arith, is.least, one-le-pow z 2 (lit< tt)) in
      ap (λ (k : ℕ). Ok (k, at + 2 * z + 1)) e
      ∙ code_number_lem bytes at z leading (2 ^ z) (v + 1 - 2 ^ z) (omega (arith, is.few))
      (lt-ltb (at + 2 * z) (8 * length bytes) (omega (arith, b.inside, bits_of_length z (v + 1 - 2 ^ z)))) refl (sym n)

pub unsigned_read : (v : ℕ) → v + 1 < 2 ^ 32 → (bytes : List ℕ) (at : ℕ) → Begins bytes at (unsigned_bits v)
    → unsigned_code bytes at ≡ Ok (v, at + length (unsigned_bits v))
unfolding unsigned_bits
unsigned_read v h bytes at g =
    sym (code_read v (zeros_of v) (zeros_of_lem v h) bytes at g)
    ∙ ap (λ (k : ℕ). Ok (v, k)) (omega (arith, unsigned_length v h))

-- ---- se(v)
pub code_number_signed : (k : ℤ) → signed_number (code_number k) ≡ k
unfolding signed_number code_number
code_number_signed (pos zero) = refl
code_number_signed (pos (suc n)) =
    let o : (2 * suc n - 1) % 2 ≡ 1 = omega arith in
    rw (eq-eqb _ 1 o) (ap pos (omega arith))
code_number_signed (negsuc n) =
    let o : 2 * suc n % 2 ≡ 0 = omega arith in
    let h : 2 * suc n / 2 ≡ suc n = omega arith in
    rw (ne_eqb (2 * suc n % 2) 1 (λ e. omega (arith, e, o)), h)
