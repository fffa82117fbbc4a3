-- Codes put into a buffer of bits.
--   zeros_few               the codes of numbers up to 510 begin with at most 8 zeros
--   bits_first, put_more    one bit more of a number
--   zeros_bits, one_bits    the zeros of a code, and what follows them, as bits of numbers
--   code_put                both, one behind the other
use mathlib.Core.Path.{◌≡◌, refl, ap, ap₂, ◌∙◌}
use mathlib.Core.Bool.{Bool, true, false}
use mathlib.Core.List.{List, [], ◌∷◌, ◌++◌}
use Prim.Native.Nat.{ℕ, zero, suc, ◌+◌, ◌-◌, ◌/◌, ◌%◌, ◌^◌, ◌≤◌, ◌<◌}
use native.Mathlib.Nat.{pow-succ', zero-div, div-eq_of_lt-le}
use native.Mathlib.Numerals.{add-one}
use native.Mathlib.Omega.{arith}
use borrow.Author.Tests.{ltb-true, ltb-false}
use lib.Dec.{ltb}
use lib.ListN.{set, replicate}
use lib.Pow.{pow_mono}
use Rattle.text.specs.Text.{Wrote, WroteUpTo}
use Rattle.text.proofs.WroteLaws.{Left, left_more, wrote_one, wrote_more}
use Rattle.bits_written.specs.Codes.{bits_of, zeros_of, unsigned_bits}
use Rattle.bits_written.proofs.CodesLaws.{bits_of_front, Zeros, zeros_of_lem, unsigned_length}

pub zeros_few : (v : ℕ) → v ≤ 510 → zeros_of v ≤ 8
zeros_few v h = by_test (ltb 8 (zeros_of v)) refl
  where
    by_test : (b : Bool) → ltb 8 (zeros_of v) ≡ b → zeros_of v ≤ 8
    by_test true e = absurd (let b : ⊥ = omega (arith, (zeros_of_lem v (omega arith)).least, pow_mono {i = 9} {j = zeros_of v} (ltb-true 8 (zeros_of v) e)) in b)
    by_test false e = ltb-false 8 (zeros_of v) e

bits_first : (k v : ℕ) → 0 < k → bits_of k v ≡ v / 2 ^ (k - 1) % 2 ∷ bits_of (k - 1) v
bits_first k v h = let e : k ≡ suc (k - 1) = omega arith in ap (λ (n : ℕ). bits_of n v) e ∙ bits_of_front (k - 1) v

pub put_more : {l t m : List ℕ} {i j : ℕ} (v k : ℕ) → 0 < k → Left l i t m j (bits_of k v)
    → Left l i t (set m j (v / 2 ^ (k - 1) % 2)) (j + 1) (bits_of (k - 1) v)
put_more {m = m} {j = j} v k h g = left_more (rw (bits_first k v h) at g) (wrote_one m j (v / 2 ^ (k - 1) % 2))

zeros_bits : (n : ℕ) → bits_of n 0 ≡ replicate n 0
unfolding bits_of
zeros_bits zero = refl
zeros_bits (suc n) = bits_of_front n 0 ∙ ap₂ ◌∷◌ (ap (λ (k : ℕ). k % 2) (zero-div (2 ^ n))) (zeros_bits n)

bits_past : (n w : ℕ) → bits_of n (w + 2 ^ n) ≡ bits_of n w
unfolding bits_of
bits_past zero w = refl
bits_past (suc n) w =
    let h : (w + 2 ^ suc n) / 2 ≡ w / 2 + 2 ^ n = omega (arith, pow-succ' 2 n) in
    let r : (w + 2 ^ suc n) % 2 ≡ w % 2 = omega (arith, pow-succ' 2 n) in
    ap₂ (λ (v b : ℕ). bits_of n v ++ (b ∷ [])) h r ∙ ap (λ (l : List ℕ). l ++ (w % 2 ∷ [])) (bits_past n (w / 2))

one_bits : (v z : ℕ) → Zeros v z → bits_of (z + 1) (v + 1) ≡ 1 ∷ bits_of z (v + 1 - 2 ^ z)
one_bits v z h =
    let one : (v + 1) / 2 ^ z ≡ 1 = div-eq_of_lt-le (2 ^ z) (omega (arith, h.least)) (omega (arith, h.most)) in
    let rest : v + 1 ≡ v + 1 - 2 ^ z + 2 ^ z = omega (arith, h.least) in
    ap (λ (k : ℕ). bits_of k (v + 1)) (add-one z) ∙ bits_of_front z (v + 1)
    ∙ ap₂ ◌∷◌ (ap (λ (k : ℕ). k % 2) one) (ap (bits_of z) rest ∙ bits_past z (v + 1 - 2 ^ z))

code_is : (v : ℕ) → v ≤ 510 → bits_of (zeros_of v) 0 ++ bits_of (zeros_of v + 1) (v + 1) ≡ unsigned_bits v
unfolding unsigned_bits
code_is v h = ap₂ ◌++◌ (zeros_bits (zeros_of v)) (one_bits v (zeros_of v) (zeros_of_lem v (omega arith)))

pub code_put : {l m n : List ℕ} {i j k : ℕ} (v z : ℕ) → v ≤ 510 → z ≡ zeros_of v → Wrote l i (bits_of z 0) m j → Wrote m j (bits_of (z + 1) (v + 1)) n k
    → WroteUpTo l i (unsigned_bits v) n k (i + 17)
code_put v z h e a b =
    let w = rw (code_is v h) at (rw e at (wrote_more a b)) in
    record { wrote = w; bound = omega (arith, w.end, unsigned_length v (omega arith), zeros_few v h) }
