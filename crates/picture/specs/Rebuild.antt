-- A block rebuilt into a plane, refused calls included: rows 1, 2, 6, 13 and 12 of the table, in this order.
--   Rebuilt                what a call hands back: its outcome, and the plane afterwards
--   left plane e           refused with e: the plane as lent
--   rebuilt                the answer and the plane of `rebuild_block`, by its arguments
--   Rebuilds r after w     a call's answer r and its plane `after` are what w says
-- What the functions below the refusals rely on and say:
--   Below top k xs         the first k samples are at most top
--   SamplesChecked top xs a   the test of row 12: it refuses at the first sample above top
--   Placed                 n elements from `at` on are f 0, f 1, .., all others as before
--   Inside                 buffers, block and plane have the sizes that the ladder leaves
use Rattle.std.specs.Prelude.{◌≡◌, cond, List, ℕ, ◌+◌, ◌-◌, ◌*◌, ◌≤◌, ◌<◌, T, ltb, ℤ, length, get_or, Result}
use Rattle.h265.specs.Range.{is_size}
use Rattle.refusal.specs.declared.Refusal.{Refusal}
use Rattle.refusal.specs.declared.Refusal.TheVariants.{SizeInvalid, DepthInvalid, InputTooShort, SampleOutside, PictureInvalid}
use Rattle.refusal.specs.Condition.{size_refused, depth_refused, block_refused}
use Rattle.refusal.specs.Check.{Checked}
use Rattle.refusal.specs.Outcome.{Outcome, accepted, refused, answer}
use Rattle.planes.specs.Picture.{picture_refused, block_outside}
use Rattle.picture.specs.Samples.{sample_max, among, rebuilt_plane, first_above}

pub record Rebuilt : Type 0 where
  pub answer : Outcome (Unit {0})
  pub plane : List ℕ

abbrev pub left : List ℕ → Refusal → Rebuilt
left plane e = record { answer = refused tt e; plane = plane }

abbrev pub put : List ℕ → Rebuilt
put plane = record { answer = accepted tt; plane = plane }

unfoldable pub rebuilt : ℕ → ℕ → List ℤ → List ℕ → ℕ → ℕ → ℕ → ℕ → ℕ → List ℕ → Rebuilt
rebuilt n b residual prediction width height stride x y plane =
    let first : ℕ = first_above (sample_max b) (n * n) prediction in
    cond (size_refused n) (left plane SizeInvalid)
    (cond (depth_refused b) (left plane DepthInvalid)
    (cond (block_refused n (length residual)) (left plane InputTooShort)
    (cond (block_refused n (length prediction)) (left plane InputTooShort)
    (cond (picture_refused width height stride (length plane)) (left plane PictureInvalid)
    (cond (block_outside n width height x y) (left plane PictureInvalid)
    (cond (ltb first (n * n)) (left plane (SampleOutside first))
    (put (rebuilt_plane n b residual prediction stride x y plane))))))))

pub record Rebuilds (r : Result (Unit {0}) Refusal) (after : List ℕ) (w : Rebuilt) : Type 0 where
  pub answered : answer r ≡ w.answer
  pub plane : after ≡ w.plane

pub record Below (top k : ℕ) (xs : List ℕ) : Type 0 where
  pub at : (i : ℕ) → i < k → get_or xs i 0 ≤ top

abbrev pub SamplesChecked : ℕ → List ℕ → Result (Unit {0}) Refusal → Type 0
SamplesChecked top xs a =
    let first : ℕ = first_above top (length xs) xs in
    Checked (ltb first (length xs)) (SampleOutside first) a

pub record Placed (at n : ℕ) (f : ℕ → ℕ) (before after : List ℕ) : Type 0 where
  pub same : length after ≡ length before
  pub is : (i : ℕ) → get_or after i 0 ≡ cond (among at n i) (f (i - at)) (get_or before i 0)

pub record Inside (n b stride x y residuals predictions places : ℕ) : Type 0 where
  pub size : T (is_size n)
  pub depth : b ≤ 16
  pub residual : n * n ≤ residuals
  pub prediction : n * n ≤ predictions
  pub columns : x + n ≤ stride
  pub rows : (y + n) * stride ≤ places
  pub narrow : stride ≤ 65536
  pub low : y + n ≤ 16384
