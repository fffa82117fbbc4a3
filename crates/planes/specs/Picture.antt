-- Row 13 of the table of refusals: a plane that does not hold its picture, or a block that the picture does not hold.
-- A plane has the sample of column x and row y at y × stride + x.
--   picture_refused width height stride len   of the plane: a side outside 1 .. 16,384, a stride under the width or above 65,536, or under stride × height elements
--   block_outside n width height x y          of the block: a column or a row of it lies past the picture
--   PictureChecked width height stride len a, BlockChecked n width height x y a   the test of each
use Rattle.std.specs.Prelude.{Bool, ◌||◌, ℕ, ◌+◌, ◌*◌, ltb, Result}
use Rattle.refusal.specs.declared.Refusal.{Refusal}
use Rattle.refusal.specs.declared.Refusal.TheVariants.{PictureInvalid}
use Rattle.refusal.specs.Check.{Checked}

unfoldable pub side_refused : ℕ → Bool
side_refused k = ltb k 1 || ltb 16384 k

unfoldable pub stride_refused : ℕ → ℕ → Bool
stride_refused width stride = ltb stride width || ltb 65536 stride

unfoldable pub picture_refused : ℕ → ℕ → ℕ → ℕ → Bool
picture_refused width height stride len =
    side_refused width || (side_refused height || (stride_refused width stride || ltb len (stride * height)))

unfoldable pub block_outside : ℕ → ℕ → ℕ → ℕ → ℕ → Bool
block_outside n width height x y = ltb width (x + n) || ltb height (y + n)

abbrev pub PictureChecked : ℕ → ℕ → ℕ → ℕ → Result (Unit {0}) Refusal → Type 0
PictureChecked width height stride len a = Checked (picture_refused width height stride len) PictureInvalid a

abbrev pub BlockChecked : ℕ → ℕ → ℕ → ℕ → ℕ → Result (Unit {0}) Refusal → Type 0
BlockChecked n width height x y a = Checked (block_outside n width height x y) PictureInvalid a
