-- Limits as the machine has them: what the two tests of a lane leave is the limit, to 16 bits, which it then fits, or to 0 .. most.
--   clamped            what they leave of a lane of 32 bits
--   clamped_fits       it fits 16 bits
--   limited_is         stored in 16 bits, it is the limit
--   bounded            what they leave of a lane of 16 bits
--   bounded_is         it is the limit to 0 .. most
use mathlib.Core.Path.{◌≡◌, refl, sym, ap, subst, ◌∙◌}
use mathlib.Core.Bool.{Bool, true, false, cond}
use Prim.Native.Nat.{ℕ}
use native.Mathlib.Omega.{arith}
use lib.IntN.{ℤ, pos, negsuc}
use lib.Lanes.{top}
use lib.Signed.{lt_z, ◌≤ℤ◌}
use mir.Syntax.{w16, w32}
use mir.Val.{SFits, to_z, of_z}
use mir.Facts.{to_z-of_z}
use Rattle.integers.specs.Clip.{clip3}
use Rattle.integers.proofs.LinearLaws.{le_in, parts_ext}
use Rattle.integers.proofs.OrderLaws.{<ℤ-≤ℤ}
use Rattle.integers.proofs.MachineLaws.{lt_z_true, lt_z_false}
use Rattle.integers.proofs.ClipLaws.{clip3_low, clip3_high, clip3_id}
use Rattle.h265.specs.Range.{coeff_min, coeff_max, clip_coeff}
use Rattle.h265.proofs.RangeLaws.{clip_coeff_between}

abbrev least : ℤ
least = negsuc 32767

abbrev most : ℤ
most = pos 32767

-- what the machine chooses by a test t of a lane: all bits of t's lane are set, or none
abbrev chosen : Bool → ℕ → ℕ → ℕ
chosen t m n = cond (top 31 (cond t 4294967295 0)) m n

abbrev raised : ℕ → ℕ
raised n = chosen (lt_z (to_z w32 n) least) 4294934528 n

abbrev pub clamped : ℕ → ℤ
clamped n = to_z w32 (chosen (lt_z (to_z w32 (raised n)) most) (raised n) 32767)

inside : {x : ℤ} → least ≤ℤ x → x ≤ℤ most → SFits w16 x
inside {x = pos n} h k = record { sfits = omega (arith, le_in k) }
inside {x = negsuc n} h k = record { sfits = omega (arith, le_in h) }

module _ (n : ℕ) where
  abbrev x : ℤ
  x = to_z w32 n

  clamped_is : clamped n ≡ clip_coeff 15 x
  unfolding clip_coeff coeff_min coeff_max
  clamped_is = by_tests (lt_z x least) (lt_z x most) refl refl
    where
      at_most : (t : Bool) → lt_z most x ≡ t → least ≤ℤ x → most ≤ℤ x → clip_coeff 15 x ≡ most
      at_most true h l k = clip3_high least most x l (lt_z_true h)
      at_most false h l k =
          let p : x ≤ℤ most = lt_z_false h in
          clip3_id least most x l p ∙ parts_ext x most (omega (arith, le_in p, le_in k))

      by_tests : (a b : Bool) → lt_z x least ≡ a → lt_z x most ≡ b → clamped n ≡ clip_coeff 15 x
      by_tests true b e k = simp e (sym (clip3_low least most x (lt_z_true e)))
      by_tests false true e k = simp (e, k) (sym (clip3_id least most x (lt_z_false e) (<ℤ-≤ℤ (lt_z_true k))))
      by_tests false false e k = simp (e, k) (sym (at_most (lt_z most x) refl (lt_z_false e) (lt_z_false k)))

  pub clamped_fits : SFits w16 (clamped n)
  unfolding coeff_min coeff_max
  clamped_fits = let b = clip_coeff_between 15 x in subst (λ z. SFits w16 z) (sym clamped_is) (inside b.0 b.1)

pub limited_is : {x : ℤ} → SFits w32 x → to_z w16 (of_z w16 (clamped (of_z w32 x))) ≡ clip_coeff 15 x
limited_is {x} f = to_z-of_z (clamped_fits (of_z w32 x)) ∙ clamped_is (of_z w32 x) ∙ ap (clip_coeff 15) (to_z-of_z f)

-- ---- the same of 16 bits, with 0 as the least
abbrev chosen_16 : Bool → ℕ → ℕ → ℕ
chosen_16 t m n = cond (top 15 (cond t 65535 0)) m n

abbrev raised_16 : ℕ → ℕ
raised_16 n = chosen_16 (lt_z (to_z w16 n) (pos 0)) 0 n

abbrev pub bounded : ℤ → ℕ → ℤ
bounded u n = to_z w16 (chosen_16 (lt_z (to_z w16 (raised_16 n)) (to_z w16 (of_z w16 u))) (raised_16 n) (of_z w16 u))

pub bounded_is : {u x : ℤ} → SFits w16 u → SFits w16 x → pos 0 ≤ℤ u → bounded u (of_z w16 x) ≡ clip3 (pos 0) u x
bounded_is {u} {x} f g o = by_tests (lt_z x (pos 0)) (lt_z x u) (lt_z (pos 0) u) refl refl refl
  where
    none : lt_z (pos 0) u ≡ false → u ≡ pos 0
    none e = let p : u ≤ℤ pos 0 = lt_z_false e in parts_ext u (pos 0) (omega (arith, le_in p, le_in o))

    at_most : (t : Bool) → lt_z u x ≡ t → pos 0 ≤ℤ x → u ≤ℤ x → clip3 (pos 0) u x ≡ u
    at_most true h l k = clip3_high (pos 0) u x l (lt_z_true h)
    at_most false h l k =
        let p : x ≤ℤ u = lt_z_false h in
        clip3_id (pos 0) u x l p ∙ parts_ext x u (omega (arith, le_in p, le_in k))

    by_tests : (a b d : Bool) → lt_z x (pos 0) ≡ a → lt_z x u ≡ b → lt_z (pos 0) u ≡ d → bounded u (of_z w16 x) ≡ clip3 (pos 0) u x
    by_tests true b true e k i = simp (to_z-of_z, f, g, e, i) (sym (clip3_low (pos 0) u x (lt_z_true e)))
    by_tests true b false e k i = simp (to_z-of_z, f, g, e, i) (none i ∙ sym (clip3_low (pos 0) u x (lt_z_true e)))
    by_tests false true d e k i = simp (to_z-of_z, f, g, e, k) (sym (clip3_id (pos 0) u x (lt_z_false e) (<ℤ-≤ℤ (lt_z_true k))))
    by_tests false false d e k i = simp (to_z-of_z, f, g, e, k) (sym (at_most (lt_z u x) refl (lt_z_false e) (lt_z_false k)))
