-- Laws of the 8-point line by its halves.
--   line_low, line_high    outputs j and 7 - j, as the sum and the difference of output j of each half
--   EvenAndOdd x e o       e and o are the lines over the values of x in even and odd places
--   low_fits, high_fits    those sums and differences fit 32 bits
--   joined, outputs_8      the eight that the machine makes of two halves are the line
use mathlib.Core.Path.{◌≡◌, refl, sym, ap₂, subst, ◌∙◌}
use mathlib.Core.List.{List, [], ◌∷◌}
use Prim.Native.Nat.{ℕ, ◌+◌, ◌-◌, ◌*◌, ◌<◌}
use native.Mathlib.Decide.{dec_lt}
use native.Mathlib.Omega.{arith}
use lib.IntN.{ℤ, pos, ◌+ℤ◌, ◌-ℤ◌}
use lib.ListN.{get_or}
use mir.Syntax.{w32}
use mir.Val.{SFits}
use Rattle.integers.specs.Within.{Within}
use Rattle.integers.proofs.BoundLaws.{within_eq}
use Rattle.h265.specs.Matrix.{folding_values, folding, folded_entry, folded_angle, trans_matrix32, trans_matrix}
use Rattle.h265.specs.Transform.{transform_line}
use Rattle.h265.proofs.TransformLaws.{transform_line_cong}
use Rattle.transform_1d.proofs.MatrixLaws.{transform_line_within, trans_matrix-abs_sum_8}
use Rattle.integers.proofs.TestLaws.{all_below}
use Rattle.lines.proofs.SplitLaws.{mirrors, line_low as split-low, line_high as split-high}
use Rattle.lines_wide.specs.Values.{WideValues, WideOutputs, odd_rows}
use Rattle.lines_wide.proofs.ValuesLaws.{most, read, small_fits, reads_fit, reads_op, below_4, Output, outputs, picked, picked_at}

below_8 : (P : ℕ → Type 0) → ((j : ℕ) → j < 4 → P j) → ((j : ℕ) → j < 4 → P (7 - j)) → (j : ℕ) → j < 8 → P j
below_8 P f g j h =
    elim (dec_lt j 4) [
      | yes l ↦ f j l
      | no l ↦ subst P (let e : 7 - (7 - j) ≡ j = omega arith in e) (g (7 - j) (omega arith))
    ]

module _ (y : ℕ → ℤ) (j : ℕ) (l : j < 4) where
  abbrev even_half : ℤ
  even_half = transform_line (trans_matrix 4) 4 (λ k. y (2 * k)) j

  abbrev odd_half : ℤ
  odd_half = transform_line odd_rows 4 (λ k. y (2 * k + 1)) j

  line_low : transform_line (trans_matrix 8) 8 y j ≡ even_half +ℤ odd_half
  unfolding transform_line
  line_low = split-low 4 refl y j

  line_high : transform_line (trans_matrix 8) 8 y (7 - j) ≡ even_half -ℤ odd_half
  unfolding transform_line mirrors all_below trans_matrix trans_matrix32 folded_entry folded_angle folding folding_values
  line_high = split-high 4 refl tt y j l

pub record EvenAndOdd (x e o : List ℤ) : Type 0 where
  pub all : WideValues 8 x
  pub even : WideOutputs (trans_matrix 4) 4 (picked (λ k. 2 * k) x) e
  pub odd : WideOutputs odd_rows 4 (picked (λ k. 2 * k + 1) x) o

module _ {x e o : List ℤ} (h : EvenAndOdd x e o) (j : ℕ) (l : j < 4) where
  abbrev line_at : ℕ → ℤ
  line_at m = transform_line (trans_matrix 8) 8 (λ k. get_or x k (pos 0)) m

  abbrev even : ℤ
  even = get_or e j (pos 0)

  abbrev odd : ℤ
  odd = get_or o j (pos 0)

  even_at : even ≡ transform_line (trans_matrix 4) 4 (λ k. get_or x (2 * k) (pos 0)) j
  even_at =
      h.even.output j l
      ∙ transform_line_cong (trans_matrix 4) 4 _ (λ k. get_or x (2 * k) (pos 0)) j (picked_at (λ k. 2 * k) h.all (λ k m. omega arith))

  odd_at : odd ≡ transform_line odd_rows 4 (λ k. get_or x (2 * k + 1) (pos 0)) j
  odd_at =
      h.odd.output j l
      ∙ transform_line_cong odd_rows 4 _ (λ k. get_or x (2 * k + 1) (pos 0)) j (picked_at (λ k. 2 * k + 1) h.all (λ k m. omega arith))

  line_at_within : (m : ℕ) → m < 8 → Within most (line_at m)
  line_at_within m b = transform_line_within (trans_matrix 8) 8 (λ k. get_or x k (pos 0)) m (trans_matrix-abs_sum_8 m b) h.all.at

  low_is : even +ℤ odd ≡ line_at j
  low_is = ap₂ ◌+ℤ◌ even_at odd_at ∙ sym (line_low (λ k. get_or x k (pos 0)) j l)

  high_is : even -ℤ odd ≡ line_at (7 - j)
  high_is = ap₂ ◌-ℤ◌ even_at odd_at ∙ sym (line_high (λ k. get_or x k (pos 0)) j l)

  even_fits : SFits w32 even
  even_fits = small_fits (h.even.bound j l)

  odd_fits : SFits w32 odd
  odd_fits = small_fits (h.odd.bound j l)

  low_small : Within most (even +ℤ odd)
  low_small = within_eq low_is (line_at_within j (omega arith))

  high_small : Within most (even -ℤ odd)
  high_small = within_eq high_is (line_at_within (7 - j) (omega arith))

  pub low_fits : SFits w32 (read even +ℤ read odd)
  low_fits = reads_fit ◌+ℤ◌ even_fits odd_fits low_small

  pub high_fits : SFits w32 (read even -ℤ read odd)
  high_fits = reads_fit ◌-ℤ◌ even_fits odd_fits high_small

  low_output : Output (trans_matrix 8) 8 x j (read (read even +ℤ read odd))
  low_output = let q = reads_op ◌+ℤ◌ even_fits odd_fits low_small in record { is = q ∙ low_is; small = within_eq q low_small }

  high_output : Output (trans_matrix 8) 8 x (7 - j) (read (read even -ℤ read odd))
  high_output = let q = reads_op ◌-ℤ◌ even_fits odd_fits high_small in record { is = q ∙ high_is; small = within_eq q high_small }

module _ (e o : List ℤ) where
  abbrev low_at : ℕ → ℤ
  low_at j = read (read (get_or e j (pos 0)) +ℤ read (get_or o j (pos 0)))

  abbrev high_at : ℕ → ℤ
  high_at j = read (read (get_or e j (pos 0)) -ℤ read (get_or o j (pos 0)))

  abbrev joined : List ℤ
  joined = low_at 0 ∷ low_at 1 ∷ low_at 2 ∷ low_at 3 ∷ high_at 3 ∷ high_at 2 ∷ high_at 1 ∷ high_at 0 ∷ []

pub outputs_8 : {x e o : List ℤ} → EvenAndOdd x e o → WideOutputs (trans_matrix 8) 8 x (joined e o)
outputs_8 {x} {e} {o} h =
    let low = low_output h in
    let high = high_output h in
    outputs refl
    (below_8 P
    (below_4 P (low 0 (omega arith)) (low 1 (omega arith)) (low 2 (omega arith)) (low 3 (omega arith)))
    (below_4 (λ j. P (7 - j)) (high 0 (omega arith)) (high 1 (omega arith)) (high 2 (omega arith)) (high 3 (omega arith))))
  where
    P : ℕ → Type 0
    P j = Output (trans_matrix 8) 8 x j (get_or (joined e o) j (pos 0))
