-- What is read of an output of integers is the output itself, so that what is promised of the one holds of the other.
--   dequantized_read, transform_skipped_read   for coefficients, and for residuals
use Rattle.std.specs.Prelude.{Result}
use mathlib.Core.Bool.{Bool}
use mathlib.Core.List.{List, map}
use Prim.Native.Nat.{ℕ}
use lib.IntN.{ℤ}
use Rattle.std.proofs.lemmas.List.{map-id}
use Rattle.h265.specs.ScalingFactor.{ScalingList}
use Rattle.refusal.specs.declared.Refusal.{Refusal}
use Rattle.scaling_blocks.specs.Blocks.{dequantized, transform_skipped, CountWrites}

module _ (narrow : Bool) (list : ScalingList) (n : ℕ) (q : ℤ) (b : ℕ) (x : Bool) (levels xs : List ℤ) {ys : List ℤ} {r : Result ℕ Refusal} where
  pub dequantized_read : CountWrites r (map (λ z. z) ys) (dequantized narrow list n q b x levels (map (λ z. z) xs)) → CountWrites r ys (dequantized narrow list n q b x levels xs)
  dequantized_read h = rw (map-id xs, map-id ys) at h

  pub transform_skipped_read : CountWrites r (map (λ z. z) ys) (transform_skipped narrow list n q b x levels (map (λ z. z) xs)) → CountWrites r ys (transform_skipped narrow list n q b x levels xs)
  transform_skipped_read h = rw (map-id xs, map-id ys) at h
