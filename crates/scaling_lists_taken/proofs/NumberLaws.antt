-- Which list: size_id and matrix_id of list j, and the list that a reference means.
--   matrix_id_eq, number_eq   both as the code computes them
--   matrix_id_bound   no matrix_id is above 5
--   reference_far    a reference reaches no farther than to matrix_id 0
--   number-before    the list that it means stands before this one
use mathlib.Core.Path.{◌≡◌, refl, ap}
use mathlib.Core.Bool.{Bool, true, false}
use mathlib.Core.Logic.{◌⊎◌, inl, inr, ⊎_elim}
use Prim.Native.Nat.{ℕ, ◌+◌, ◌-◌, ◌*◌, ◌/◌, ◌%◌, ◌≤◌, ◌<◌}
use native.Mathlib.Omega.{arith}
use borrow.Author.Tests.{eqb-true}
use lib.Dec.{eqb}
use Rattle.scaling_lists_codes.specs.Syntax.{matrix_step, size_id, matrix_id, list_number}

step_cases : (s : ℕ) → (matrix_step s ≡ 1) ⊎ ((matrix_step s ≡ 3) × (s ≡ 3))
unfolding matrix_step
step_cases s = by_test (eqb s 3) refl
  where
    by_test : (b : Bool) → eqb s 3 ≡ b → (matrix_step s ≡ 1) ⊎ ((matrix_step s ≡ 3) × (s ≡ 3))
    by_test true e = inr (rw e, eqb-true s 3 e)
    by_test false e = inl (rw e)

pub matrix_id_bound : (j : ℕ) → j < 20 → matrix_id j ≤ 5
unfolding matrix_id size_id
matrix_id_bound j h = ⊎_elim (λ e. rw e (omega arith)) (λ e. rw e.0 (omega (arith, e.1))) (step_cases (j / 6))

module _ (j delta : ℕ) (h : j < 20) (far : delta ≤ matrix_id j / matrix_step (size_id j)) where
  pub reference_far : delta * matrix_step (size_id j) ≤ matrix_id j
  unfolding matrix_id size_id
  reference_far =
      ⊎_elim (λ e. let f = rw e at far in rw e (omega (arith, f))) (λ e. let f = rw e.0 at far in rw e.0 (omega (arith, f))) (step_cases (j / 6))

  pub number-before : 1 ≤ delta → list_number (size_id j) (matrix_id j - delta * matrix_step (size_id j)) < j
  unfolding matrix_id size_id list_number
  number-before l =
      ⊎_elim (λ e. let f = rw e at far in rw e (omega (arith, f))) (λ e. let f = rw e.0 at far in rw e.0 (omega (arith, f))) (step_cases (j / 6))

pub matrix_id_eq : (j t : ℕ) → t ≡ matrix_step (j / 6) → j % 6 * t ≡ matrix_id j
unfolding matrix_id size_id
matrix_id_eq j t e = ap (λ (k : ℕ). j % 6 * k) e

pub number_eq : (j delta t m : ℕ) → t ≡ matrix_step (j / 6) → m ≡ matrix_id j
    → 6 * (j / 6) + (m - delta * t) / t ≡ list_number (size_id j) (matrix_id j - delta * matrix_step (size_id j))
unfolding size_id list_number
number_eq j delta t m e f = rw (e, f)
