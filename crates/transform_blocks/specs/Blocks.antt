-- Whole blocks, refused calls included. docs/RULES.md, "Inverse transforms", and rows 1, 2, 3, 6, 7, 9, 19 of its table.
-- Letters: n size, b depth, x extended precision, nx column count.
--   plain_range, extended_range               names of the flag
--   transform_ladder stop go narrow n b x coeff out   the conditions before row 9, lowest number first
--   inverted narrow kind n b x nx coeff out   what a transform answers and what its output holds afterwards; `narrow`: 16-bit output
--   OfKind kind n                             what the functions below the refusals rely on: the DST has four points
--   InRange                                   size, kind, depth, range and lengths are right, and the coefficients read lie in the range
use Rattle.std.specs.Prelude.{◌≡◌, Bool, true, false, cond, List, ℕ, ◌+◌, ◌*◌, ◌<◌, ◌≤◌, T, ltb, ℤ, pos, get_or, length}
use Rattle.integers.specs.Lists.{overwrite}
use Rattle.h265.specs.Range.{is_size, transform_range, outside_range}
use Rattle.h265.specs.Transform.{row_order, residual}
use Rattle.refusal.specs.declared.Refusal.{Refusal}
use Rattle.refusal.specs.Condition.{output_ladder, buffer_ladder}
use Rattle.refusal.specs.Written.{Written, left, wrote}
use Rattle.transform_1d.specs.declared.Kind.{Kind}
use Rattle.transform_1d.specs.declared.Kind.TheVariants.{Dst}
use Rattle.transform_1d.specs.MatrixOf.{matrix_of}
use Rattle.coefficients.specs.Outside.{first_outside, refusal_at}

-- the range of coefficients: R = 15, or by extended precision
abbrev pub plain_range : Bool
plain_range = false

abbrev pub extended_range : Bool
extended_range = true

-- by the lengths of the buffers; `stop` makes something of a refusal
abbrev pub transform_ladder : {A : Type 0} → (Refusal → A) → A → Bool → ℕ → ℕ → Bool → ℕ → ℕ → A
transform_ladder stop go narrow n b x coeff out = output_ladder stop narrow n b x (buffer_ladder stop n coeff out go)

unfoldable pub inverted : Bool → Kind → ℕ → ℕ → Bool → ℕ → List ℤ → List ℤ → Written
inverted narrow kind n b x nx coeff out =
    let r : ℕ = transform_range b x in
    let first : ℕ = first_outside r n nx coeff in
    transform_ladder (left out)
    (cond (ltb first (n * n)) (left out (refusal_at r n coeff first))
    (wrote (overwrite (n * n) (row_order n (residual (matrix_of kind n) n b r nx coeff)) out)))
    narrow n b x (length coeff) (length out)

pub record OfKind (kind : Kind) (n : ℕ) : Type 0 where
  pub dst : kind ≡ Dst → n ≡ 4

pub record InRange (kind : Kind) (n b r nx : ℕ) (coeff : List ℤ) (places : ℕ) : Type 0 where
  pub size : T (is_size n)
  pub dst : kind ≡ Dst → n ≡ 4
  pub depth : (8 ≤ b) × (b ≤ 16)
  pub range : (15 ≤ r) × (r ≤ 22) × (r ≤ b + 7) × (b ≤ r + 1)
  pub columns : nx ≤ n
  pub long : n * n ≤ length coeff
  pub room : n * n ≤ places
  pub inside : (k c : ℕ) → k < n → c < nx → outside_range r (get_or coeff (k * n + c) (pos 0)) ≡ false
