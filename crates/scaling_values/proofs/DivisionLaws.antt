-- The quotients that give the two levels.
--   half_below                  the rounding lies below the end
--   top_most, top_quotient      the two answers of the largest level's division
--   low_most, low_quotient      those of the least one's
--   top_least, low_least        the smaller of the quotient and of the range's end is the level
use Prim.Native.Nat.{ℕ, ◌+◌, ◌-◌, ◌*◌, ◌/◌, ◌^◌, ◌≤◌, ◌<◌}
use Rattle.std.specs.Prelude.{min}
use Rattle.std.proofs.Math.Nat.{min-eq_left, min-eq_right}
use Rattle.std.proofs.lemmas.Bool.{cases_lt}
use mathlib.Core.Logic.{inl, inr}
use native.Mathlib.Nat.{mul_comm, mul-le-mul_right, div-mul-le_self, lt-mul-div-succ, suc-mul}
use native.Mathlib.Numerals.{add-one}
use native.Mathlib.Omega.{arith}
use Rattle.scaling_values.specs.Flat.{TopOf, LowOf, Divided}

module _ {f a s m : ℕ} (h : Divided f a s m) where
  abbrev end : ℕ
  end = (m + 1) * 2 ^ s

  pub half_below : a < end
  half_below = omega (arith, h.half, add-one m, suc-mul m (2 ^ s))

  pub top_most : m < (end - 1 - a) / f → TopOf f a s m m
  top_most k =
      record {
        inside = omega arith;
        fits = omega (arith, half_below, div-mul-le_self (end - 1 - a) f, let e : m * f ≤ (end - 1 - a) / f * f = mul-le-mul_right f (omega arith) in e);
        next = λ l. absurd (let x : ⊥ = omega arith in x);
      }

  pub top_quotient : (end - 1 - a) / f ≤ m → TopOf f a s m ((end - 1 - a) / f)
  top_quotient k =
      record {
        inside = k;
        fits = omega (arith, half_below, div-mul-le_self (end - 1 - a) f);
        next = λ l. omega (arith, half_below, lt-mul-div-succ (end - 1 - a) h.positive, mul_comm f ((end - 1 - a) / f + 1));
      }

  pub low_most : m < (end + a) / f → LowOf f a s m (m + 1)
  low_most k =
      record {
        inside = omega arith;
        fits = omega (arith, div-mul-le_self (end + a) f, let e : (m + 1) * f ≤ (end + a) / f * f = mul-le-mul_right f (omega arith) in e);
        next = λ l. absurd (let x : ⊥ = omega arith in x);
      }

  pub low_quotient : (end + a) / f ≤ m → LowOf f a s m ((end + a) / f)
  low_quotient k =
      record {
        inside = omega arith;
        fits = div-mul-le_self (end + a) f;
        next = λ l. omega (arith, lt-mul-div-succ (end + a) h.positive, mul_comm f ((end + a) / f + 1));
      }

  pub top_least : TopOf f a s m (min ((end - 1 - a) / f) m)
  top_least = elim (cases_lt m ((end - 1 - a) / f)) [
    | inl k ↦ let h : m ≤ (end - 1 - a) / f = omega arith in rw min-eq_right (top_most k)
    | inr k ↦ rw min-eq_left (top_quotient k)
  ]

  pub low_least : LowOf f a s m (min ((end + a) / f) (m + 1))
  low_least = elim (cases_lt m ((end + a) / f)) [
    | inl k ↦ let h : m + 1 ≤ (end + a) / f = omega arith in rw min-eq_right (low_most k)
    | inr k ↦ let h : (end + a) / f ≤ m + 1 = omega arith in rw min-eq_left (low_quotient k)
  ]
