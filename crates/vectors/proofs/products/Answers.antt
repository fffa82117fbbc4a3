-- `vectors::products` meets its contract: the two values of a column stand side by side in 32 bits, as its halves.
use mathlib.Core.Path.{◌≡◌, refl, sym, ap, ap₂, ◌∙◌, subst}
use mathlib.Core.List.{List, [], ◌∷◌, ◌++◌, map}
use Prim.Native.Nat.{ℕ, zero, suc, ◌+◌, ◌*◌, ◌-◌, ◌/◌, ◌%◌, ◌^◌, ◌<◌, ◌≤◌}
use native.Mathlib.Nat.{mod-lt}
use native.Mathlib.Decide.{dec_lt}
use native.Mathlib.Omega.{arith}
use lib.IntN.{ℤ, pos, negsuc, ◌+ℤ◌, ◌*ℤ◌, *ℤ_comm, *ℤ-zero}
use lib.Lanes.{Each1, number_l, digits_l, pick_l, chunk}
use lib.ListN.{length, get_or, get_or-eq_default}
use lib.Signed.{shr_z}
use mir.Syntax.{w16, w32}
use mir.Val.{SFits, to_z, of_z}
use mir.ValLaws.{of_z_fits}
use mir.Facts.{to_z-of_z, to_z_pos, to_z-neg, sfits_widen}
use Rattle.std.proofs.lemmas.Simd.{get_or_wider, get_or_narrower, Each1-from_get_or}
use Rattle.integers.specs.Within.{Within}
use Rattle.integers.proofs.BoundLaws.{within_add, within_mul, within_fits, within_sfits, within_eq}
use Rattle.vectors.specs.Lanes.{lane}
use Rattle.vectors.proofs.LanesLaws.{lanes_fit, by_lanes, all_cases, product_bits, plus_is}
use Rattle.vectors.proofs.products.Goals as goal

-- ---- the halves of 32 bits
low_half : {x : ℤ} (y : ℕ) → SFits w16 x → shr_z (to_z w32 (((of_z w16 x + 65536 * y) * 65536) % 4294967296)) 65536 ≡ x
low_half {x = pos n} y f =
    let e : ((n + 65536 * y) * 65536) % 4294967296 ≡ n * 65536 = omega (arith, f.sfits) in
    let h : n * 65536 < 2147483648 = omega (arith, f.sfits) in
    rw (e, to_z_pos w32 h) (ap pos (let d : n * 65536 / 65536 ≡ n = omega arith in d))
low_half {x = negsuc n} y f =
    let e : ((65536 - suc n + 65536 * y) * 65536) % 4294967296 ≡ 4294967296 - suc (n * 65536 + 65535) = omega (arith, f.sfits) in
    let h : n * 65536 + 65535 < 2147483648 = omega (arith, f.sfits) in
    rw (e, to_z-neg w32 (n * 65536 + 65535) h) (ap negsuc (let d : (n * 65536 + 65535) / 65536 ≡ n = omega arith in d))

high_half : {x : ℕ} {y : ℤ} → x < 65536 → SFits w16 y → shr_z (to_z w32 (x + 65536 * of_z w16 y)) 65536 ≡ y
high_half {x} {y = pos n} b f =
    let h : x + 65536 * n < 2147483648 = omega (arith, f.sfits) in
    rw (to_z_pos w32 h) (ap pos (let d : (x + 65536 * n) / 65536 ≡ n = omega arith in d))
high_half {x} {y = negsuc n} b f =
    let e : x + 65536 * (65536 - suc n) ≡ 4294967296 - suc (n * 65536 + (65535 - x)) = omega (arith, f.sfits) in
    let h : n * 65536 + (65535 - x) < 2147483648 = omega (arith, f.sfits) in
    rw (e, to_z-neg w32 (n * 65536 + (65535 - x)) h) (ap negsuc (let d : (n * 65536 + (65535 - x)) / 65536 ≡ n = omega arith in d))

-- ---- 16 bits as bytes, and bytes as 32 bits
abbrev bytes : List ℕ → List ℕ
bytes ws = digits_l 256 16 (number_l 65536 ws)

abbrev wide : List ℕ → List ℕ
wide ws = digits_l 4294967296 4 (number_l 256 (bytes ws))

digits_below : (p n x : ℕ) → 0 < p → Each1 (λ d. d < p) (digits_l p n x)
digits_below p zero x h = tt
digits_below p (suc n) x h = (mod-lt x h, digits_below p n (x / p) h)

four_bytes : {a b c d m n : ℕ} → a ≡ m / 1 % 256 → b ≡ m / 256 % 256 → c ≡ n / 1 % 256 → d ≡ n / 256 % 256 → m < 65536 → n < 65536
    → a + 256 * (b + 256 * (c + 256 * (d + 256 * 0))) ≡ m + 65536 * n
four_bytes p q r s h k = omega arith

module _ (ws : List ℕ) (below : (i : ℕ) → get_or ws i 0 < 65536) where
  byte : (i k : ℕ) → k < 2 → 2 * i + k < 16 → get_or (bytes ws) (2 * i + k) 0 ≡ get_or ws i 0 / 256 ^ k % 256
  byte i k h b = get_or_narrower 65536 2 256 16 ws i k refl (Each1-from_get_or (λ n. n < 65536) ws 0 (λ j h. below j)) h b

  module _ (j : ℕ) (h : j < 4) where
    abbrev here : ℕ → ℕ → ℕ
    here i k = get_or (bytes ws) (2 * (2 * j + i) + k) 0

    wide_at : number_l 256 (chunk (4 * j) 4 (bytes ws)) ≡ here 0 0 + 256 * (here 0 1 + 256 * (here 1 0 + 256 * (here 1 1 + 256 * 0)))
        → get_or (wide ws) j 0 ≡ get_or ws (2 * j + 0) 0 + 65536 * get_or ws (2 * j + 1) 0
    wide_at e =
        get_or_wider 256 4 4294967296 4 (bytes ws) j refl (digits_below 256 16 (number_l 65536 ws) (omega arith)) h
        ∙ e
        ∙ four_bytes (byte (2 * j + 0) 0 (omega arith) (omega arith)) (byte (2 * j + 0) 1 (omega arith) (omega arith))
        (byte (2 * j + 1) 0 (omega arith) (omega arith)) (byte (2 * j + 1) 1 (omega arith) (omega arith)) (below (2 * j + 0)) (below (2 * j + 1))

  wide_lane : (f : ℕ → ℤ) (j : ℕ) → j < 4 → lane j (map f (wide ws)) ≡ f (get_or ws (2 * j + 0) 0 + 65536 * get_or ws (2 * j + 1) 0)
  wide_lane f =
      all_cases _ (λ h. ap f (wide_at 0 h refl)) (λ h. ap f (wide_at 1 h refl)) (λ h. ap f (wide_at 2 h refl)) (λ h. ap f (wide_at 3 h refl))
      (λ j h. absurd (let b : ⊥ = omega arith in b))

-- ---- the lanes of two vectors in turn
abbrev in_turn : List ℤ → List ℤ → List ℕ
in_turn x y = pick_l 0 (map (of_z w16) x ++ map (of_z w16) y) (0 ∷ 4 ∷ 1 ∷ 5 ∷ 2 ∷ 6 ∷ 3 ∷ 7 ∷ [])

in_turn_at : (x y : List ℤ) → length x ≡ 4 → length y ≡ 4 → (j : ℕ) → j < 4
    → (get_or (in_turn x y) (2 * j + 0) 0 ≡ of_z w16 (lane j x)) × (get_or (in_turn x y) (2 * j + 1) 0 ≡ of_z w16 (lane j y))
in_turn_at x y k l =
    by_lanes 4 (λ x y. (j : ℕ) → j < 4 → (get_or (in_turn x y) (2 * j + 0) 0 ≡ of_z w16 (lane j x)) × (get_or (in_turn x y) (2 * j + 1) 0 ≡ of_z w16 (lane j y))) x y k l
    (all_cases _ (λ h. (refl, refl)) (λ h. (refl, refl)) (λ h. (refl, refl)) (λ h. (refl, refl)) (λ j h. absurd (let b : ⊥ = omega arith in b)))

bits_below : (x : List ℤ) → ((i : ℕ) → SFits w16 (lane i x)) → (i : ℕ) → get_or (map (of_z w16) x) i 0 < 65536
bits_below [] f i = omega arith
bits_below (x ∷ xs) f zero = (of_z_fits w16 x (f 0)).fits
bits_below (x ∷ xs) f (suc i) = bits_below xs (λ k. f (suc k)) i

both_below : (xs ys : List ℕ) → ((i : ℕ) → get_or xs i 0 < 65536) → ((i : ℕ) → get_or ys i 0 < 65536) → (i : ℕ) → get_or (xs ++ ys) i 0 < 65536
both_below [] ys a b i = b i
both_below (x ∷ xs) ys a b zero = a 0
both_below (x ∷ xs) ys a b (suc i) = both_below xs ys (λ k. a (suc k)) b i

picks_below : (xs ks : List ℕ) → ((i : ℕ) → get_or xs i 0 < 65536) → (i : ℕ) → get_or (pick_l 0 xs ks) i 0 < 65536
picks_below xs [] b i = omega arith
picks_below xs (k ∷ ks) b zero = b k
picks_below xs (k ∷ ks) b (suc i) = picks_below xs ks b i

-- ---- a column
abbrev column_bits : ℤ → ℤ → ℕ → ℤ
column_bits u v p =
    to_z w32 (((of_z w32 (shr_z (to_z w32 ((p * 65536) % 4294967296)) 65536) * of_z w32 (to_z w16 (of_z w16 u))) % 4294967296
    + (of_z w32 (shr_z (to_z w32 p) 65536) * of_z w32 (to_z w16 (of_z w16 v))) % 4294967296) % 4294967296)

-- a product of a value and a factor as the machine computes it
module _ {u x : ℤ} (a : Within 180 u) (f : SFits w16 x) where
  one_small : Within 5898240 (u *ℤ x)
  one_small = within_mul a (within_sfits f)

  one_fits : SFits w32 (u *ℤ x)
  one_fits = within_fits tt one_small

  one_is : (of_z w32 x * of_z w32 (to_z w16 (of_z w16 u))) % 4294967296 ≡ of_z w32 (u *ℤ x)
  one_is =
      ap (λ z. (of_z w32 x * of_z w32 z) % 4294967296) (to_z-of_z {w = w16} (within_fits tt a))
      ∙ product_bits (sfits_widen tt f) (within_fits tt a) (subst (λ z. SFits w32 z) (*ℤ_comm u x) one_fits)
      ∙ ap (of_z w32) (*ℤ_comm x u)

module _ {u v x y : ℤ} (a : Within 180 u) (b : Within 180 v) (f : SFits w16 x) (g : SFits w16 y) where
  small : Within 11796480 (u *ℤ x +ℤ v *ℤ y)
  small = within_add (one_small a f) (one_small b g)

  column_is : column_bits u v (of_z w16 x + 65536 * of_z w16 y) ≡ u *ℤ x +ℤ v *ℤ y
  column_is =
      rw (low_half (of_z w16 y) f, high_half (of_z_fits w16 x f).fits g, one_is a f, one_is b g)
      (plus_is w32 (one_fits a f) (one_fits b g) (within_fits tt small))

pub returns : goal.returns
returns c j = (e, within_eq e (small c.requires.0 c.requires.1 (f j) (g j)))
  where
    f : (i : ℕ) → SFits w16 (lane i c.args.x.v)
    f = lanes_fit w16 _ c.well_formed.1.0

    g : (i : ℕ) → SFits w16 (lane i c.args.y.v)
    g = lanes_fit w16 _ c.well_formed.1.1.1.0

    ws : List ℕ
    ws = in_turn c.args.x.v c.args.y.v

    below : (i : ℕ) → get_or ws i 0 < 65536
    below = picks_below (map (of_z w16) c.args.x.v ++ map (of_z w16) c.args.y.v) (0 ∷ 4 ∷ 1 ∷ 5 ∷ 2 ∷ 6 ∷ 3 ∷ 7 ∷ [])
        (both_below (map (of_z w16) c.args.x.v) (map (of_z w16) c.args.y.v) (bits_below c.args.x.v f) (bits_below c.args.y.v g))

    e : lane j (map (column_bits c.args.u c.args.v) (wide ws)) ≡ c.args.u *ℤ lane j c.args.x.v +ℤ c.args.v *ℤ lane j c.args.y.v
    e = elim (dec_lt j 4) [
      | yes h ↦ let p = in_turn_at c.args.x.v c.args.y.v c.args.x.four c.args.y.four j h in
          wide_lane ws below (column_bits c.args.u c.args.v) j h
          ∙ ap₂ (λ m n. column_bits c.args.u c.args.v (m + 65536 * n)) p.0 p.1
          ∙ column_is c.requires.0 c.requires.1 (f j) (g j)
      | no d ↦ get_or-eq_default (map (column_bits c.args.u c.args.v) (wide ws)) (pos 0) (let h : 4 ≤ j = omega arith in h)
          ∙ sym (ap₂ (λ a b. c.args.u *ℤ a +ℤ c.args.v *ℤ b) (get_or-eq_default c.args.x.v (pos 0) (omega (arith, c.args.x.four))) (get_or-eq_default c.args.y.v (pos 0) (omega (arith, c.args.y.four)))
          ∙ ap₂ ◌+ℤ◌ (*ℤ-zero c.args.u) (*ℤ-zero c.args.v))
    ]
