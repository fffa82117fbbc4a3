-- Laws of vectors of signed numbers, whose lanes the machine holds as bits.
--   lanes_fit                 each lane of a parameter's vector fits its width, by what `well_formed` says of the parameter
--   written_out, by_lanes     a vector is the list of its lanes, written out where their number is a numeral; a fact of two such vectors
--   all_cases                 a fact of the lanes 0 to 3, and of those past them
--   map_trip, placed          bits and back; a store
--   two_long, two_lanes       the length and a lane of an operation on two vectors
--   product_bits              the bits of a product that fits
--   plus_is, minus_is, shifted_lanes, times_lanes     the operations on lanes: a sum and a difference that fit, a shift, and a multiple that fits
--   wide_lanes                16 bits as 32
use mathlib.Core.Path.{◌≡◌, refl, sym, subst, ap, ap₂, ◌∙◌}
use mathlib.Core.List.{List, [], ◌∷◌, map}
use Prim.Native.Nat.{ℕ, zero, suc, ◌+◌, ◌*◌, ◌-◌, ◌%◌, ◌^◌, ◌≤◌}
use native.Mathlib.Nat.{zero-div, mod-lt}
use native.Mathlib.Decide.{dec_lt}
use native.Mathlib.Omega.{arith}
use lib.IntN.{ℤ, pos, ◌+ℤ◌, ◌-ℤ◌, ◌*ℤ◌, *ℤ_comm, *ℤ-zero}
use lib.Lanes.{zip2, put_chunk, pick_l}
use lib.ListN.{length, length-map, replicate}
use lib.Pow.{pow_pos, pow_mono}
use lib.Signed.{shr_z}
use mir.Syntax.{Width, w16, w32}
use mir.Val.{Val, SFits, to_z, of_z, bits, hbits}
use mir.ValLaws.{of_z_fits}
use mir.Facts.{to_z-of_z, of_z-to_z, sfits_widen}
use denote.Array.{each}
use denote.Shadow.{shadow}
use denote.Signed.{SInt}
use Rattle.std.specs.List.{range_with_len}
use Rattle.std.specs.Int.{int_wrap}
use Rattle.std.proofs.lemmas.Int.{wrapping_add-bits, wrapping_sub-bits, wrapping_mul-bits, int_wrap_fits}
use Rattle.std.proofs.lemmas.Simd.{length-zip2, pick_l_whole, length-put_chunk, get_or-put_chunk_below, get_or-put_chunk_at, get_or-put_chunk_above}
use Rattle.integers.specs.Shift.{pow2, shift_right}
use Rattle.integers.proofs.MachineLaws.{sfits_shr}
use Rattle.integers.proofs.BoundLaws.{within_pos, within_fits}
use Rattle.transform_1d.specs.Rows.{Placed}
use Rattle.vectors.specs.Lanes.{lane}

each_fits : (w : Width) (xs : List ℤ) (us : List Val) → shadow (each ℤ (SInt w).own_val xs us) → (j : ℕ) → SFits w (lane j xs)
each_fits w [] us h j = record { sfits = pow_pos (hbits w) }
each_fits w (x ∷ xs) [] h j = absurd h
each_fits w (x ∷ xs) (u ∷ us) h zero = record { sfits = h.0.1 }
each_fits w (x ∷ xs) (u ∷ us) h (suc j) = each_fits w xs us h.1 j

-- of a struct whose one field is the vector
pub lanes_fit : (w : Width) (xs : List ℤ) {X : Type 0} {A : X → Type 0} {B : X → List Val → Type 0}
    → (x : X) × (A x × (((us : List Val) × (B x us × shadow (each ℤ (SInt w).own_val xs us))) × Unit {0})) → (j : ℕ) → SFits w (lane j xs)
lanes_fit w xs h = each_fits w xs _ h.1.1.0.1.1

-- a vector as the list of its lanes, which is written out where n is a numeral
pub written_out : (n : ℕ) (xs : List ℤ) → length xs ≡ n → xs ≡ pick_l (pos 0) xs (range_with_len 0 n)
written_out n xs l = sym (pick_l_whole (pos 0) xs n l)

-- a fact of two vectors, from the same of the lists of their lanes
pub by_lanes : (n : ℕ) (P : List ℤ → List ℤ → Type 0) (a b : List ℤ) → length a ≡ n → length b ≡ n
    → P (pick_l (pos 0) a (range_with_len 0 n)) (pick_l (pos 0) b (range_with_len 0 n)) → P a b
by_lanes n P a b k l p =
    subst (λ x. P x b) (sym (written_out n a k)) (subst (λ y. P (pick_l (pos 0) a (range_with_len 0 n)) y) (sym (written_out n b l)) p)

pub all_cases : (P : ℕ → Type 0) → P 0 → P 1 → P 2 → P 3 → ((j : ℕ) → P (suc (suc (suc (suc j))))) → (j : ℕ) → P j
all_cases P a b c d e zero = a
all_cases P a b c d e (suc zero) = b
all_cases P a b c d e (suc (suc zero)) = c
all_cases P a b c d e (suc (suc (suc zero))) = d
all_cases P a b c d e (suc (suc (suc (suc j)))) = e j

-- bits and back
pub map_trip : (w : Width) (xs : List ℤ) → ((j : ℕ) → SFits w (lane j xs)) → map (to_z w) (map (of_z w) xs) ≡ xs
map_trip w [] h = refl
map_trip w (x ∷ xs) h = ap₂ ◌∷◌ (to_z-of_z (h 0)) (map_trip w xs (λ j. h (suc j)))

-- a store of n lanes
pub placed : (at n : ℕ) (xs vs : List ℤ) → length vs ≡ n → at + n ≤ length xs → Placed at n (λ j. lane j vs) xs (put_chunk at xs vs)
placed at n xs vs l h =
    record {
      long = length-put_chunk at xs vs;
      done = λ j k. get_or-put_chunk_at at xs vs j (pos 0) (omega arith) (omega arith);
      kept = λ i k.
          elim (dec_lt i at) [
            | yes y ↦ get_or-put_chunk_below at xs vs i (pos 0) y
            | no d ↦ get_or-put_chunk_above at xs vs i (pos 0) (elim (dec_lt i (at + n)) [
              | yes y ↦ absurd (k (i - at) (omega arith) (omega arith))
              | no e ↦ omega arith
            ])
          ];
    }

pub two_long : (w : Width) (f : ℕ → ℕ → ℕ) {n : ℕ} (a : List ℤ) (ys : List ℕ) → length a ≡ n → length ys ≡ n
    → length (map (to_z w) (zip2 f (map (of_z w) a) ys)) ≡ n
two_long w f a ys k l = simp (length-map, length-zip2 f (map (of_z w) a) ys (simp length-map (k ∙ sym l))) k

pub two_lanes : (w : Width) (f : ℕ → ℕ → ℕ) → to_z w (f 0 0) ≡ pos 0 → (a b : List ℤ) → length a ≡ length b → (j : ℕ)
    → lane j (map (to_z w) (zip2 f (map (of_z w) a) (map (of_z w) b))) ≡ to_z w (f (of_z w (lane j a)) (of_z w (lane j b)))
two_lanes w f e [] [] l j = sym e
two_lanes w f e [] (y ∷ b) l j = absurd (let h : ⊥ = omega arith in h)
two_lanes w f e (x ∷ a) [] l j = absurd (let h : ⊥ = omega arith in h)
two_lanes w f e (x ∷ a) (y ∷ b) l zero = refl
two_lanes w f e (x ∷ a) (y ∷ b) l (suc j) = two_lanes w f e a b (omega arith) j

module _ (w : Width) {x y : ℤ} (f : SFits w x) (g : SFits w y) where
  pub plus_is : SFits w (x +ℤ y) → to_z w ((of_z w x + of_z w y) % 2 ^ bits w) ≡ x +ℤ y
  plus_is h = wrapping_add-bits w (of_z w x) (of_z w y) (of_z_fits w x f).fits (of_z_fits w y g).fits ∙ simp (to_z-of_z, f, g) (int_wrap_fits w (x +ℤ y) h)

  pub minus_is : SFits w (x -ℤ y) → to_z w ((of_z w x + (2 ^ bits w - of_z w y)) % 2 ^ bits w) ≡ x -ℤ y
  minus_is h = wrapping_sub-bits w (of_z w x) (of_z w y) (of_z_fits w x f).fits (of_z_fits w y g).fits ∙ simp (to_z-of_z, f, g) (int_wrap_fits w (x -ℤ y) h)

-- a shift of each lane by s
pub shifted_lanes : (w : Width) (s n : ℕ) (v : List ℤ) → length v ≡ n → ((j : ℕ) → SFits w (lane j v)) → (j : ℕ)
    → lane j (map (to_z w) (zip2 (λ a b. of_z w (shr_z (to_z w a) (2 ^ b))) (map (of_z w) v) (replicate n s))) ≡ shift_right (lane j v) s
unfolding shift_right
shifted_lanes w s zero [] l h j = ap pos (sym (zero-div (2 ^ s)))
shifted_lanes w s zero (x ∷ v) l h j = absurd (let b : ⊥ = omega arith in b)
shifted_lanes w s (suc n) [] l h j = absurd (let b : ⊥ = omega arith in b)
shifted_lanes w s (suc n) (x ∷ v) l h zero = simp (to_z-of_z, h 0, sfits_shr (2 ^ s) (h 0))
shifted_lanes w s (suc n) (x ∷ v) l h (suc j) = shifted_lanes w s n v (omega arith) (λ k. h (suc k)) j

-- the bits of a product that fits
pub product_bits : {x y : ℤ} → SFits w32 x → SFits w32 y → SFits w32 (x *ℤ y) → (of_z w32 x * of_z w32 y) % 4294967296 ≡ of_z w32 (x *ℤ y)
product_bits {x} {y} f g h =
    sym (of_z-to_z {w = w32} (record { fits = mod-lt (of_z w32 x * of_z w32 y) (pow_pos 32) }))
    ∙ ap (of_z w32) (wrapping_mul-bits w32 (of_z w32 x) (of_z w32 y) (of_z_fits w32 x f).fits (of_z_fits w32 y g).fits
    ∙ ap₂ (λ a b. int_wrap w32 (a *ℤ b)) (to_z-of_z f) (to_z-of_z g) ∙ int_wrap_fits w32 (x *ℤ y) h)

-- 2^s times each lane
pub times_lanes : (s n : ℕ) (v : List ℤ) → s ≤ 30 → length v ≡ n → ((j : ℕ) → SFits w32 (lane j v)) → ((j : ℕ) → SFits w32 (pow2 s *ℤ lane j v)) → (j : ℕ)
    → lane j (map (to_z w32) (zip2 (λ a b. a * 2 ^ b % 4294967296) (map (of_z w32) v) (replicate n s))) ≡ pow2 s *ℤ lane j v
times_lanes s zero [] i l h g j = sym (*ℤ-zero (pow2 s))
times_lanes s zero (x ∷ v) i l h g j = absurd (let b : ⊥ = omega arith in b)
times_lanes s (suc n) [] i l h g j = absurd (let b : ⊥ = omega arith in b)
times_lanes s (suc n) (x ∷ v) i l h g zero =
    let f : SFits w32 (x *ℤ pow2 s) = subst (λ z. SFits w32 z) (*ℤ_comm (pow2 s) x) (g 0) in
    ap (to_z w32) (product_bits (h 0) (within_fits {b = 2 ^ 30} tt (within_pos (pow_mono {j = 30} i))) f) ∙ to_z-of_z f ∙ *ℤ_comm x (pow2 s)
times_lanes s (suc n) (x ∷ v) i l h g (suc j) = times_lanes s n v i (omega arith) (λ k. h (suc k)) (λ k. g (suc k)) j

pub wide_lanes : (v : List ℤ) → ((j : ℕ) → SFits w16 (lane j v)) → (j : ℕ) → lane j (map (to_z w32) (map (λ n. of_z w32 (to_z w16 n)) (map (of_z w16) v))) ≡ lane j v
wide_lanes [] h j = refl
wide_lanes (x ∷ v) h zero = simp (to_z-of_z, h 0, sfits_widen {w' = w32} tt (h 0))
wide_lanes (x ∷ v) h (suc j) = wide_lanes v (λ k. h (suc k)) j
