-- What a plane and a block give that row 13 does not refuse.
--   side_accepted, stride_accepted   a side is 1 .. 16,384, a stride the width .. 65,536
--   Sized, picture_accepted          the sizes of a plane
--   block-accepted                   the block ends within the picture
--   stride_height, plane_fits        the elements of the largest plane, and that 64 bits count them
use mathlib.Core.Path.{◌≡◌}
use mathlib.Core.Bool.{false}
use Prim.Native.Nat.{ℕ, ◌+◌, ◌*◌, ◌≤◌, ◌<◌}
use native.Mathlib.Nat.{mul-le-mul}
use native.Mathlib.Omega.{arith}
use borrow.Author.Tests.{ltb-false}
use lib.Dec.{ltb}
use Rattle.integers.proofs.TestLaws.{neither}
use Rattle.planes.specs.Picture.{side_refused, stride_refused, picture_refused, block_outside}

pub side_accepted : (k : ℕ) → side_refused k ≡ false → (1 ≤ k) × (k ≤ 16384)
unfolding side_refused
side_accepted k e = let h = neither (ltb k 1) (ltb 16384 k) e in (ltb-false k 1 h.0, ltb-false 16384 k h.1)

pub stride_accepted : (width stride : ℕ) → stride_refused width stride ≡ false → (width ≤ stride) × (stride ≤ 65536)
unfolding stride_refused
stride_accepted width stride e =
    let h = neither (ltb stride width) (ltb 65536 stride) e in (ltb-false stride width h.0, ltb-false 65536 stride h.1)

pub record Sized (width height stride len : ℕ) : Type 0 where
  pub wide : (1 ≤ width) × (width ≤ 16384)
  pub high : (1 ≤ height) × (height ≤ 16384)
  pub strides : (width ≤ stride) × (stride ≤ 65536)
  pub long : stride * height ≤ len

pub picture_accepted : (width height stride len : ℕ) → picture_refused width height stride len ≡ false → Sized width height stride len
unfolding picture_refused
picture_accepted width height stride len e =
    let w = neither (side_refused width) _ e in
    let h = neither (side_refused height) _ w.1 in
    let s = neither (stride_refused width stride) _ h.1 in
    record {
      wide = side_accepted width w.0;
      high = side_accepted height h.0;
      strides = stride_accepted width stride s.0;
      long = ltb-false len (stride * height) s.1;
    }

pub block-accepted : (n width height x y : ℕ) → block_outside n width height x y ≡ false → (x + n ≤ width) × (y + n ≤ height)
unfolding block_outside
block-accepted n width height x y e =
    let h = neither (ltb width (x + n)) (ltb height (y + n)) e in (ltb-false width (x + n) h.0, ltb-false height (y + n) h.1)

pub stride_height : (stride height : ℕ) → stride ≤ 65536 → height ≤ 16384 → stride * height ≤ 1073741824
stride_height stride height s h = mul-le-mul s h

pub plane_fits : (width stride height : ℕ) → side_refused height ≡ false → stride_refused width stride ≡ false → stride * height < 18446744073709551616
plane_fits width stride height h s =
    omega (arith, stride_height stride height (stride_accepted width stride s).1 (side_accepted height h).1)
