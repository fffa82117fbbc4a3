-- The least and the most value of the range that pass a test.
--   gap                        a number is a smaller one and their difference
--   least_passes, most_passes  where a value passes, the least passes and is at most it, and so on the other side
--   none-passes                where none does, least and most are 1 and 0
--   passes_between             where what passes stands together, a value of the range passes exactly where it lies between least and most
--   range_ends                 where every value passes, they are the ends of the range
use mathlib.Core.Path.{◌≡◌, refl, ap, ◌∙◌}
use mathlib.Core.Logic.{◌↔◌}
use mathlib.Core.Bool.{Bool, true, false, cond}
use Prim.Native.Nat.{ℕ, ◌+◌, ◌^◌, ◌≤◌, ◌<◌}
use native.Mathlib.Omega.{arith}
use borrow.Author.Tests.{ltb-true, ltb-false, lt-ltb}
use lib.Dec.{ltb}
use lib.IntN.{ℤ, pos, negsuc, neg_ℤ, nat_abs, ◌+ℤ◌, ◌-ℤ◌}
use lib.Signed.{◌≤ℤ◌}
use Rattle.integers.specs.Search.{first_where}
use Rattle.integers.proofs.LinearLaws.{pos_part, neg_part, parts_add, parts_neg, parts_ext, eq_in, le_in, le_out}
use Rattle.integers.proofs.OrderLaws.{≤ℤ_antisym}
use Rattle.integers.proofs.SearchLaws.{first_where_first}
use Rattle.h265.specs.Range.{coeff_min, coeff_max, outside_range}
use Rattle.h265.proofs.RangeLaws.{coeff_min-≤-coeff_max, outside_range_false}
use Rattle.edit_values.specs.Values.{value_count, least_where, most_where}
use Rattle.edit_values.proofs.OrderedLaws.{not_both}

pub gap : (a b : ℤ) → a ≤ℤ b → a +ℤ pos (nat_abs (b -ℤ a)) ≡ b
gap a b h = by_sign (b -ℤ a) refl
  where
    by_sign : (z : ℤ) → b -ℤ a ≡ z → a +ℤ pos (nat_abs z) ≡ b
    by_sign (pos n) e = parts_ext (a +ℤ pos n) b (omega (arith, parts_add a (pos n), parts_add b (neg_ℤ a), parts_neg a, eq_in e))
    by_sign (negsuc n) e = absurd (let y : ⊥ = omega (arith, le_in h, parts_add b (neg_ℤ a), parts_neg a, eq_in e) in y)

-- ---- places
module _ (r : ℕ) where
  least_parts : (pos_part (coeff_min r) ≡ 0) × (neg_part (coeff_min r) ≡ 2 ^ r)
  unfolding coeff_min
  least_parts = let p = parts_neg (pos (2 ^ r)) in (p.0, p.1)

  most_parts : pos_part (coeff_max r) + 1 ≡ 2 ^ r + neg_part (coeff_max r)
  unfolding coeff_max
  most_parts = omega (arith, parts_add (pos (2 ^ r)) (neg_ℤ (pos 1)))

  above : (o : ℕ) → coeff_min r ≤ℤ (coeff_min r +ℤ pos o)
  above o = le_out (coeff_min r) (coeff_min r +ℤ pos o) (omega (arith, parts_add (coeff_min r) (pos o)))

  above_in : (o : ℕ) → o < value_count r → (coeff_min r +ℤ pos o) ≤ℤ coeff_max r
  above_in o h = le_out (coeff_min r +ℤ pos o) (coeff_max r) (omega (arith, least_parts, most_parts, parts_add (coeff_min r) (pos o)))

  below : (o : ℕ) → (coeff_max r -ℤ pos o) ≤ℤ coeff_max r
  below o = le_out (coeff_max r -ℤ pos o) (coeff_max r) (omega (arith, parts_add (coeff_max r) (neg_ℤ (pos o)), parts_neg (pos o)))

  below_in : (o : ℕ) → o < value_count r → coeff_min r ≤ℤ (coeff_max r -ℤ pos o)
  below_in o h = le_out (coeff_min r) (coeff_max r -ℤ pos o) (omega (arith, least_parts, most_parts, parts_add (coeff_max r) (neg_ℤ (pos o)), parts_neg (pos o)))

  -- a value of the range by its distance from either end
  module _ (v : ℤ) (lo : coeff_min r ≤ℤ v) (hi : v ≤ℤ coeff_max r) where
    abbrev up : ℕ
    up = nat_abs (v -ℤ coeff_min r)

    up_is : coeff_min r +ℤ pos up ≡ v
    up_is = gap (coeff_min r) v lo

    up_in : up < value_count r
    up_in = omega (arith, least_parts, most_parts, parts_add (coeff_min r) (pos up), eq_in up_is, le_in hi)

    abbrev down : ℕ
    down = nat_abs (coeff_max r -ℤ v)

    down_is : coeff_max r -ℤ pos down ≡ v
    down_is =
        parts_ext (coeff_max r -ℤ pos down) v
        (omega (arith, parts_add (coeff_max r) (neg_ℤ (pos down)), parts_neg (pos down), eq_in (gap v (coeff_max r) hi), parts_add v (pos down)))

    down_in : down < value_count r
    down_in = omega (arith, least_parts, most_parts, parts_add v (pos down), eq_in (gap v (coeff_max r) hi), le_in lo)

-- ---- the ends
pub record Passes (r : ℕ) (p : ℤ → Bool) (v : ℤ) : Type 0 where
  pub least : coeff_min r ≤ℤ v
  pub most : v ≤ℤ coeff_max r
  pub passes : p v ≡ true

module _ (r : ℕ) (p : ℤ → Bool) where
  q_least : ℕ → Bool
  q_least o = p (coeff_min r +ℤ pos o)

  q_most : ℕ → Bool
  q_most o = p (coeff_max r -ℤ pos o)

  -- the first that passes is at most any that does
  first_at_most : (q : ℕ → Bool) (o : ℕ) → q o ≡ true → first_where (value_count r) q ≤ o
  first_at_most q o h = by_test (ltb o (first_where (value_count r) q)) refl
    where
      by_test : (t : Bool) → ltb o (first_where (value_count r) q) ≡ t → first_where (value_count r) q ≤ o
      by_test true d = absurd (not_both ((first_where_first (value_count r) q).before.at o (ltb-true o (first_where (value_count r) q) d)) h)
      by_test false d = ltb-false o (first_where (value_count r) q) d

  pub least_passes : {v : ℤ} → Passes r p v → Passes r p (least_where r p) × (least_where r p ≤ℤ v)
  unfolding least_where q_least
  least_passes {v} h =
      let f : ℕ = first_where (value_count r) q_least in
      let o : ℕ = up r v h.least h.most in
      let l : f ≤ o = first_at_most q_least o (ap p (up_is r v h.least h.most) ∙ h.passes) in
      let i : f < value_count r = omega (arith, up_in r v h.least h.most) in
      rw (lt-ltb f (value_count r) i) (
        record { least = above r f; most = above_in r f i; passes = (first_where_first (value_count r) q_least).holds i },
        le_out (coeff_min r +ℤ pos f) v (omega (arith, eq_in (up_is r v h.least h.most), parts_add (coeff_min r) (pos f), parts_add (coeff_min r) (pos o))),
      )

  pub most_passes : {v : ℤ} → Passes r p v → Passes r p (most_where r p) × (v ≤ℤ most_where r p)
  unfolding most_where q_most
  most_passes {v} h =
      let f : ℕ = first_where (value_count r) q_most in
      let o : ℕ = down r v h.least h.most in
      let l : f ≤ o = first_at_most q_most o (ap p (down_is r v h.least h.most) ∙ h.passes) in
      let i : f < value_count r = omega (arith, down_in r v h.least h.most) in
      rw (lt-ltb f (value_count r) i) (
        record { least = below_in r f i; most = below r f; passes = (first_where_first (value_count r) q_most).holds i },
        le_out v (coeff_max r -ℤ pos f)
            (omega (arith, eq_in (down_is r v h.least h.most), parts_add (coeff_max r) (neg_ℤ (pos f)), parts_neg (pos f), parts_add (coeff_max r) (neg_ℤ (pos o)), parts_neg (pos o))),
      )

  -- either some value passes, or least and most are 1 and 0
  ends_by : (C : Type 0) → (Passes r p (least_where r p) → C) → (least_where r p ≡ pos 1 → most_where r p ≡ pos 0 → C) → C
  unfolding least_where most_where q_least q_most
  ends_by C f g = by_least (ltb (first_where (value_count r) q_least) (value_count r)) refl
    where
      none : ((v : ℤ) → Passes r p v → ⊥) → most_where r p ≡ pos 0
      none never = by_most (ltb (first_where (value_count r) q_most) (value_count r)) refl
        where
          by_most : (t : Bool) → ltb (first_where (value_count r) q_most) (value_count r) ≡ t → cond t (coeff_max r -ℤ pos (first_where (value_count r) q_most)) (pos 0) ≡ pos 0
          by_most true e =
              let i = ltb-true (first_where (value_count r) q_most) (value_count r) e in
              absurd (never (coeff_max r -ℤ pos (first_where (value_count r) q_most)) (record { least = below_in r (first_where (value_count r) q_most) i; most = below r (first_where (value_count r) q_most); passes = (first_where_first (value_count r) q_most).holds i }))
          by_most false e = refl

      by_least : (t : Bool) → ltb (first_where (value_count r) q_least) (value_count r) ≡ t → C
      by_least true e =
          let i = ltb-true (first_where (value_count r) q_least) (value_count r) e in
          f (rw e (record { least = above r (first_where (value_count r) q_least); most = above_in r (first_where (value_count r) q_least) i; passes = (first_where_first (value_count r) q_least).holds i }))
      by_least false e =
          g (rw e) (none (λ v h. let o : ℕ = up r v h.least h.most in
          let l = first_at_most q_least o (ap p (up_is r v h.least h.most) ∙ h.passes) in
          omega (arith, l, up_in r v h.least h.most, ltb-false (first_where (value_count r) q_least) (value_count r) e)))

  pub passes_between : ((u v w : ℤ) → u ≤ℤ v → v ≤ℤ w → p u ≡ true → p w ≡ true → p v ≡ true)
      → (v : ℤ) → outside_range r v ≡ false → (p v ≡ true) ↔ ((least_where r p ≤ℤ v) × (v ≤ℤ most_where r p))
  passes_between convex v inside =
      let i = outside_range_false r v inside in (
        λ h. let s : Passes r p v = record { least = i.0; most = i.1; passes = h } in ((least_passes s).1, (most_passes s).1),
        λ h. ends_by (p v ≡ true)
            (λ s. convex (least_where r p) v (most_where r p) h.0 h.1 s.passes (most_passes s).0.passes)
            (λ a b. absurd (let y : ⊥ = omega (arith, le_in h.0, le_in h.1, eq_in a, eq_in b) in y)),
      )

  pub range_ends : ((v : ℤ) → p v ≡ true) → (least_where r p ≡ coeff_min r) × (most_where r p ≡ coeff_max r)
  range_ends all =
      let ends = coeff_min-≤-coeff_max r in
      let a : Passes r p (coeff_min r) = record { least = le_out (coeff_min r) (coeff_min r) (omega arith); most = ends; passes = all (coeff_min r) } in
      let b : Passes r p (coeff_max r) = record { least = ends; most = le_out (coeff_max r) (coeff_max r) (omega arith); passes = all (coeff_max r) } in
      (≤ℤ_antisym (least_passes a).1 (least_passes a).0.least, ≤ℤ_antisym (most_passes b).0.most (most_passes b).1)
