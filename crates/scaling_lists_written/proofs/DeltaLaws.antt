-- Codes of a list in full, read again.
--   difference-…          a - b added to b is a, and lies where a lies
--   delta_inside          a delta lies in -128 .. 127
--   delta_next            the entry that it leads to is the one that was written
--   signed_read           se(v) is read as the number that was written
--   delta_read, dc_read   one delta, and a DC
--   Entries ps es         each entry at the positions is 1 .. 255
--   placed ps es to       those entries, put where they belong
--   entries_read          the entries at the positions, put where they belong
use mathlib.Core.Path.{◌≡◌, refl, ap, ◌∙◌}
use mathlib.Core.Bool.{Bool, true, false, cond}
use mathlib.Core.List.{List, [], ◌∷◌}
use Prim.Native.Nat.{ℕ, zero, suc, ◌+◌, ◌-◌, ◌*◌, ◌%◌, ◌≤◌, ◌<◌}
use native.Mathlib.Omega.{arith}
use borrow.Author.Tests.{ltb-true, ltb-false, le-ltb, ne_eqb}
use lib.Dec.{ltb}
use lib.IntN.{ℤ, pos, negsuc, neg_ℤ}
use lib.ListN.{length, get_or, set, length-append}
use Rattle.std.specs.Prelude.{Ok}
use Rattle.bits.specs.ExpGolomb.{unsigned_code}
use Rattle.bits_written.specs.Codes.{code_number, signed_bits}
use Rattle.bits_written.specs.Bytes.{Begins}
use Rattle.bits_written.proofs.BytesLaws.{begins_first, begins_second}
use Rattle.bits_written.proofs.CodesLaws.{unsigned_read, code_number_signed}
use Rattle.scaling_lists_codes.specs.Syntax.{number_at, outside_of, added, next_coef, delta_code, entries_from, dc_code}
use Rattle.scaling_lists_written.specs.Written.{difference, delta_from, delta_bits}

-- ---- differences
data Difference (a b : ℕ) : ℤ → Type 0 where
  above : (n : ℕ) → a ≡ b + n → Difference a b (pos n)
  below : (n : ℕ) → b ≡ a + suc n → Difference a b (negsuc n)

negative : (a b n : ℕ) → b ≡ a + n → 0 < n → Difference a b (neg_ℤ (pos n))
negative a b zero e h = absurd (let b : ⊥ = omega arith in b)
negative a b (suc n) e h = below n e

difference_is : (a b : ℕ) → Difference a b (difference a b)
unfolding difference
difference_is a b = by_test (ltb a b) refl
  where
    by_test : (t : Bool) → ltb a b ≡ t → Difference a b (cond t (neg_ℤ (pos (b - a))) (pos (a - b)))
    by_test true e = let h = ltb-true a b e in negative a b (b - a) (omega arith) (omega arith)
    by_test false e = let h = ltb-false a b e in above (a - b) (omega arith)

module _ (a b : ℕ) where
  pub difference-added : (n : ℕ) → b ≤ n → added n (difference a b) ≡ n + a - b
  unfolding added
  difference-added n h = by_sign (difference_is a b)
    where
      by_sign : {z : ℤ} → Difference a b z → added n z ≡ n + a - b
      by_sign (above d e) = omega arith
      by_sign (below d e) = omega arith

  pub difference_inside : (low high : ℕ) → b ≤ a + low → a ≤ b + high → outside_of low high (difference a b) ≡ false
  unfolding outside_of
  difference_inside low high l h = by_sign (difference_is a b)
    where
      by_sign : {z : ℤ} → Difference a b z → outside_of low high z ≡ false
      by_sign (above d e) = le-ltb high d (omega arith)
      by_sign (below d e) = le-ltb low (suc d) (omega arith)

  pub difference_code : (m : ℕ) → b ≤ a + m → a ≤ b + m → code_number (difference a b) ≤ 2 * m
  unfolding code_number
  difference_code m l h = by_sign (difference_is a b)
    where
      by_sign : {z : ℤ} → Difference a b z → code_number z ≤ 2 * m
      by_sign (above d e) = omega arith
      by_sign (below d e) = omega arith

-- ---- deltas
module _ (next v : ℕ) (n : next ≤ 255) (h : v ≤ 255) where
  pub delta_inside : outside_of 128 127 (delta_from next v) ≡ false
  unfolding delta_from
  delta_inside = difference_inside ((v + 384 - next) % 256) 128 128 127 (omega arith) (omega arith)

  pub delta_next : next_coef next (delta_from next v) ≡ v
  unfolding next_coef delta_from
  delta_next = ap (λ (k : ℕ). k % 256) (difference-added ((v + 384 - next) % 256) 128 (next + 256) (omega arith)) ∙ omega arith

  pub delta_code_lem : code_number (delta_from next v) ≤ 256
  unfolding delta_from
  delta_code_lem = difference_code ((v + 384 - next) % 256) 128 128 (omega arith) (omega arith)

-- ---- codes
pub signed_read : (k : ℤ) → code_number k ≤ 510 → (bytes : List ℕ) (at : ℕ) → Begins bytes at (signed_bits k)
    → unsigned_code bytes at ≡ Ok (code_number k, at + length (signed_bits k))
unfolding signed_bits
signed_read k h bytes at g = unsigned_read (code_number k) (omega arith) bytes at g

pub delta_read : (bytes : List ℕ) (next v at : ℕ) → next ≤ 255 → 1 ≤ v → v ≤ 255 → Begins bytes at (signed_bits (delta_from next v))
    → delta_code bytes next at ≡ Ok (v, at + length (signed_bits (delta_from next v)))
unfolding number_at delta_code
delta_read bytes next v at n l h g =
    rw (signed_read (delta_from next v) (omega (arith, delta_code_lem next v n h)) bytes at g, code_number_signed, delta_inside next v n h, delta_next next v n h, ne_eqb v 0 (λ e. omega arith))

pub dc_read : (bytes : List ℕ) (dc at : ℕ) → 1 ≤ dc → dc ≤ 255 → Begins bytes at (signed_bits (difference dc 8))
    → dc_code bytes at ≡ Ok (dc, at + length (signed_bits (difference dc 8)))
unfolding number_at dc_code
dc_read bytes dc at l h g =
    let e : 8 + dc - 8 ≡ dc = omega arith in
    rw (
      signed_read (difference dc 8) (omega (arith, difference_code dc 8 247 (omega arith) (omega arith))) bytes at g,
      code_number_signed,
      difference_inside dc 8 7 247 (omega arith) (omega arith),
      difference-added dc 8 8 (omega arith),
      e,
    )

-- ---- entries
abbrev pub Entries : List ℕ → List ℕ → Type 0
Entries [] es = Unit {0}
Entries (p ∷ ps) es = (1 ≤ get_or es p 0) × (get_or es p 0 ≤ 255) × Entries ps es

abbrev pub placed : List ℕ → List ℕ → List ℕ → List ℕ
placed [] es to = to
placed (p ∷ ps) es to = placed ps es (set to p (get_or es p 0))

pub entries_read : (bytes ps es : List ℕ) (next at : ℕ) (to : List ℕ) → next ≤ 255 → Entries ps es → Begins bytes at (delta_bits ps next es)
    → entries_from bytes ps next at to ≡ Ok (placed ps es to, at + length (delta_bits ps next es))
unfolding entries_from delta_bits
entries_read bytes [] es next at to n f g = ap (λ (k : ℕ). Ok (to, k)) (omega arith)
entries_read bytes (p ∷ ps) es next at to n f g =
    let v = get_or es p 0 in
    let a = signed_bits (delta_from next v) in
    let b = delta_bits ps v es in
    rw (delta_read bytes next v at n f.0 f.1 (begins_first a b g))
    (entries_read bytes ps es v (at + length a) (set to p v) f.1 f.2 (begins_second a b g)
    ∙ ap (λ (k : ℕ). Ok (placed ps es (set to p v), k)) (omega (arith, length-append a b)))
