-- The ladder of `rebuilt`, and the test of row 12.
--   Passed                        no row before 12 applies
--   rebuilt_refused, rebuilt_done   what the ladder answers then
--   passed_inside                 what the rows of the block rely on
--   above_none, above_prefix      no sample is above the largest; the search among a block's samples is that among their slice
--   samples_refused, samples_passed, samples_below   what the test of that slice says
--   samples_pass, below_passes, sample_refuses       how it comes to what it says
use Rattle.std.specs.Prelude.{Ok, Err}
use mathlib.Core.Path.{◌≡◌, refl, ap}
use mathlib.Core.Bool.{true, false}
use mathlib.Core.List.{List}
use Prim.Native.Nat.{ℕ, ◌*◌, ◌≤◌, ◌<◌}
use native.Mathlib.Nat.{mul_comm, mul-le-mul_right}
use native.Mathlib.Omega.{arith}
use borrow.Author.Tests.{lt-ltb, le-ltb, ltb-false}
use lib.Dec.{ltb}
use lib.IntN.{ℤ}
use lib.ListN.{length, get_or, take}
use lib.Seq.{length-take-le, get_or-take}
use Rattle.integers.specs.Search.{first_where}
use Rattle.integers.proofs.SearchLaws.{None, first_where_first, first_where_cong, first_where-none, first_where_found}
use Rattle.refusal.specs.declared.Refusal.{Refusal}
use Rattle.refusal.specs.declared.Refusal.TheVariants.{SampleOutside}
use Rattle.refusal.specs.Check.{Checked}
use Rattle.refusal.specs.Condition.{size_refused, depth_refused, block_refused}
use Rattle.refusal.proofs.ConditionLaws.{size_accepted, depth_accepted}
use Rattle.planes.specs.Picture.{picture_refused, block_outside}
use Rattle.picture.specs.Samples.{sample_max, first_above, rebuilt_plane}
use Rattle.picture.specs.Rebuild.{Rebuilds, rebuilt, Below, Inside, SamplesChecked}
use Rattle.planes.proofs.PictureLaws.{picture_accepted, block-accepted}

-- no row before 12 applies
pub record Passed (n b residuals predictions width height stride x y places : ℕ) : Type 0 where
  pub size : size_refused n ≡ false
  pub depth : depth_refused b ≡ false
  pub residual : block_refused n residuals ≡ false
  pub prediction : block_refused n predictions ≡ false
  pub picture : picture_refused width height stride places ≡ false
  pub block : block_outside n width height x y ≡ false

module _ (n b : ℕ) (residual : List ℤ) (prediction : List ℕ) (width height stride x y : ℕ) (plane : List ℕ) (c : Passed n b (length residual) (length prediction) width height stride x y (length plane)) where
  pub rebuilt_refused : (e : Refusal) → (ltb (first_above (sample_max b) (n * n) prediction) (n * n) ≡ true) × (e ≡ SampleOutside (first_above (sample_max b) (n * n) prediction))
      → Rebuilds (Err e) plane (rebuilt n b residual prediction width height stride x y plane)
  unfolding rebuilt
  rebuilt_refused e h =
      rw (c.size, c.depth, c.residual, c.prediction, c.picture, c.block, h.0, h.1) (record { answered = refl; plane = refl })

  pub rebuilt_done : (after : List ℕ) → ltb (first_above (sample_max b) (n * n) prediction) (n * n) ≡ false → after ≡ rebuilt_plane n b residual prediction stride x y plane
      → Rebuilds (Ok tt) after (rebuilt n b residual prediction width height stride x y plane)
  unfolding rebuilt
  rebuilt_done after h e =
      rw (c.size, c.depth, c.residual, c.prediction, c.picture, c.block, h) (record { answered = refl; plane = e })

pub passed_inside : {n b residuals predictions width height stride x y places : ℕ} → Passed n b residuals predictions width height stride x y places
    → Inside n b stride x y residuals predictions places
unfolding block_refused
passed_inside {n} {b} {residuals} {predictions} {width} {height} {stride} {x} {y} {places} c =
    let p = picture_accepted width height stride places c.picture in
    let q = block-accepted n width height x y c.block in
    record {
      size = size_accepted n c.size;
      depth = (depth_accepted b c.depth).1;
      residual = ltb-false residuals (n * n) c.residual;
      prediction = ltb-false predictions (n * n) c.prediction;
      columns = omega (arith, q.0, p.strides);
      rows = omega (arith, mul-le-mul_right stride q.1, mul_comm height stride, p.long);
      narrow = p.strides.1;
      low = omega (arith, q.1, p.high);
    }

pub above_none : (top k : ℕ) (xs : List ℕ) → k ≤ first_above top k xs → Below top k xs
unfolding first_above
above_none top k xs h =
    record { at = λ i l. ltb-false top (get_or xs i 0) ((first_where_first k (λ i. ltb top (get_or xs i 0))).before.at i (omega (arith, h))) }

-- the search among the samples of a block is that among its slice
pub above_prefix : (top k : ℕ) (xs : List ℕ) → k ≤ length xs → first_above top (length (take k xs)) (take k xs) ≡ first_above top k xs
unfolding first_above
above_prefix top k xs h =
    rw (length-take-le k xs h) (first_where_cong k (λ i. ltb top (get_or (take k xs) i 0)) (λ i. ltb top (get_or xs i 0)) (λ i l. ap (ltb top) (get_or-take k xs i 0 l)))

-- the same of what the test of row 12 says
pub samples_refused : (top k : ℕ) (xs : List ℕ) (e : Refusal) → k ≤ length xs → SamplesChecked top (take k xs) (Err e)
    → (ltb (first_above top k xs) k ≡ true) × (e ≡ SampleOutside (first_above top k xs))
samples_refused top k xs e h c = rw (above_prefix top k xs h, length-take-le k xs h) at c

pub samples_passed : (top k : ℕ) (xs : List ℕ) → k ≤ length xs → SamplesChecked top (take k xs) (Ok tt) → ltb (first_above top k xs) k ≡ false
samples_passed top k xs h c = rw (above_prefix top k xs h, length-take-le k xs h) at c

pub samples_below : (top k : ℕ) (xs : List ℕ) → k ≤ length xs → SamplesChecked top (take k xs) (Ok tt) → Below top k xs
samples_below top k xs h c = above_none top k xs (ltb-false (first_above top k xs) k (samples_passed top k xs h c))

pub samples_pass : (top : ℕ) (xs : List ℕ) → None (λ i. ltb top (get_or xs i 0)) (length xs) → SamplesChecked top xs (Ok tt)
unfolding first_above
samples_pass top xs f =
    let e : first_where (length xs) (λ i. ltb top (get_or xs i 0)) ≡ length xs = first_where-none (length xs) (omega arith) f in
    rw e (le-ltb (length xs) (length xs) (omega arith))

pub below_passes : (top : ℕ) (xs : List ℕ) → Below top (length xs) xs → SamplesChecked top xs (Ok tt)
below_passes top xs f = samples_pass top xs (record { at = λ i l. le-ltb _ _ (f.at i l) })

pub sample_refuses : (top i : ℕ) (xs : List ℕ) (e : Refusal) → i < length xs → None (λ k. ltb top (get_or xs k 0)) i
    → Checked (ltb top (get_or xs i 0)) (SampleOutside i) (Err e) → SamplesChecked top xs (Err e)
unfolding first_above
sample_refuses top i xs e h f c =
    let first : first_where (length xs) (λ k. ltb top (get_or xs k 0)) ≡ i = first_where_found (length xs) i h f c.0 in
    rw first (lt-ltb i (length xs) h, c.1)
