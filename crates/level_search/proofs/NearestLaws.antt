-- What the functions of one coefficient leave to show.
--   sided_below, sided_above      the level of a size, by the side
--   side_end_below, side_end_above  the largest size there
--   side_end_bound, nearest_size_bound   sizes stay at most 2^22
--   sided_within, scaled_fits     so that 32 bits hold the level and what it scales to
--   halved                        the end of the halving
--   le_is                         at most, by below
--   reaches_below_is, reaches_above_is   the test of a size, by the side
--   equal_bits                    the machine's test for equality
use mathlib.Core.Path.{◌≡◌, refl, sym, ap, subst, ◌∙◌}
use mathlib.Core.Bool.{Bool, true, false, not, cond}
use Prim.Native.Nat.{ℕ, ◌≤◌, ◌<◌}
use native.Mathlib.Omega.{arith}
use borrow.Author.Tests.{eqb-true, eq-eqb, ltb-true, ltb-false}
use lib.Dec.{T, eqb, ltb}
use lib.IntN.{ℤ, pos, neg_ℤ, nat_abs}
use lib.Signed.{lt_z, le_z}
use mir.Syntax.{Width, w32}
use mir.Val.{SFits, to_z, of_z}
use Rattle.integers.specs.Search.{first_where}
use Rattle.integers.specs.Within.{Within}
use Rattle.integers.proofs.MachineLaws.{round_trip, lt_z_of_le, lt_z_false}
use Rattle.integers.proofs.BoundLaws.{within_pos, within_neg}
use Rattle.integers.proofs.SearchLaws.{None, first_where_first, first_where-none, first_where_found}
use Rattle.parameters.specs.declared.DequantParams.{DequantParams}
use Rattle.scaling_values.specs.Level.{listed_level, Manageable}
use Rattle.scaling_values.proofs.LevelLaws.{listed_level_fits, manageable_ends}
use Rattle.least_level.specs.Level.{equal}
use Rattle.level_search.specs.Work.{sided, side_end, reaches, nearest_size}
use Rattle.least_level.proofs.LevelLaws.{clash, equal_sound, equal_refl}

pub le_is : (a b : ℤ) → le_z a b ≡ not (lt_z b a)
le_is a b = by_test (le_z a b) (lt_z b a) refl refl
  where
    by_test : (s t : Bool) → le_z a b ≡ s → lt_z b a ≡ t → s ≡ not t
    by_test true true d e = clash (lt_z_of_le {x = b} {y = a} (record { le = subst T (sym d) tt })) e
    by_test true false d e = refl
    by_test false true d e = refl
    by_test false false d e = absurd (subst T d (lt_z_false {x = b} {y = a} e).le)

module _ (x : ℤ) (k : ℕ) where
  pub sided_below : lt_z x (pos 0) ≡ true → sided x k ≡ neg_ℤ (pos k)
  unfolding sided
  sided_below e = rw e

  pub sided_above : lt_z x (pos 0) ≡ false → sided x k ≡ pos k
  unfolding sided
  sided_above e = rw e

  pub reaches_below_is : (f : ℤ → ℤ) → lt_z x (pos 0) ≡ true → le_z (f (sided x k)) x ≡ reaches f x k
  unfolding reaches
  reaches_below_is f e = le_is (f (sided x k)) x ∙ (let q : not (lt_z x (f (sided x k))) ≡ reaches f x k = rw e in q)

  pub reaches_above_is : (f : ℤ → ℤ) → lt_z x (pos 0) ≡ false → le_z x (f (sided x k)) ≡ reaches f x k
  unfolding reaches
  reaches_above_is f e = le_is x (f (sided x k)) ∙ (let q : not (lt_z (f (sided x k)) x) ≡ reaches f x k = rw e in q)

module _ (p : DequantParams) (x : ℤ) where
  pub side_end_below : lt_z x (pos 0) ≡ true → nat_abs p.clip_min ≡ side_end p x
  unfolding side_end
  side_end_below e = rw e

  pub side_end_above : lt_z x (pos 0) ≡ false → nat_abs p.clip_max ≡ side_end p x
  unfolding side_end
  side_end_above e = rw e

  pub side_end_bound : Manageable p → side_end p x ≤ 4194304
  unfolding side_end
  side_end_bound m = by_side (lt_z x (pos 0))
    where
      by_side : (t : Bool) → cond t (nat_abs p.clip_min) (nat_abs p.clip_max) ≤ 4194304
      by_side true = m.least.within
      by_side false = m.most.within

  pub nearest_size_bound : (f : ℤ → ℤ) → Manageable p → nearest_size p f x ≤ 4194304
  unfolding nearest_size
  nearest_size_bound f m = omega (arith, (first_where_first (side_end p x) (reaches f x)).inside, side_end_bound m)

pub sided_within : (x : ℤ) (k : ℕ) → k ≤ 4194304 → Within 4194304 (sided x k)
unfolding sided
sided_within x k h = by_side (lt_z x (pos 0))
  where
    by_side : (t : Bool) → Within 4194304 (cond t (neg_ℤ (pos k)) (pos k))
    by_side true = within_neg (within_pos h)
    by_side false = within_pos h

pub scaled_fits : {p : DequantParams} {v : ℤ} (m : ℕ) (level : ℤ) → Manageable p → v ≡ listed_level p m level → SFits w32 v
scaled_fits m level h e = subst (λ (z : ℤ). SFits w32 z) (sym e) (listed_level_fits m level (manageable_ends h))

-- where the halving ends, it has the first size that passes
pub halved : (e : ℕ) (p : ℕ → Bool) (low high : ℕ) → high ≤ low → low ≤ high → high ≤ e → None p low → (high < e → p high ≡ true)
    → low ≡ first_where e p
halved e p low high a b l n h = by_end (ltb low e) refl
  where
    same : high ≡ low
    same = omega arith

    by_end : (t : Bool) → ltb low e ≡ t → low ≡ first_where e p
    by_end true d =
        let k : low < e = ltb-true low e d in
        sym (first_where_found e low k n (ap p (sym same) ∙ h (omega arith)))
    by_end false d =
        let k : e ≤ low = ltb-false low e d in
        let q : low ≡ e = omega arith in
        q ∙ sym (first_where-none e k n)

pub equal_bits : {w : Width} (a b : ℤ) → SFits w a → SFits w b → eqb (of_z w a) (of_z w b) ≡ equal a b
equal_bits {w} a b f g = by_test (eqb (of_z w a) (of_z w b)) (equal a b) refl refl
  where
    by_test : (s t : Bool) → eqb (of_z w a) (of_z w b) ≡ s → equal a b ≡ t → s ≡ t
    by_test true true d e = refl
    by_test true false d e =
        let q : a ≡ b = sym (round_trip f) ∙ ap (to_z w) (eqb-true (of_z w a) (of_z w b) d) ∙ round_trip g in
        clash e (rw q (equal_refl b))
    by_test false true d e = clash d (eq-eqb (of_z w a) (of_z w b) (ap (of_z w) (equal_sound a b e)))
    by_test false false d e = refl
