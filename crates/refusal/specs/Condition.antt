-- The conditions of the table of refusals (docs/RULES.md) that several calls share, one definition for each row. A call tests them lowest
-- number first, but for row 25, which comes after 3.
--   size_refused n          1: the size is not 4, 8, 16 or 32
--   depth_refused b         2: the depth is outside 8 .. 16
--   width_refused b x       3: 16-bit output with depth above 9 or extended precision
--   rotation_refused t n    25: rotation, and the size is not 4
--   list_refused len        5: the list has not 64 entries
--   block_refused n len     6, 7: a buffer has fewer than n² elements
--   bits16, bits32          how wide an element of the output is: row 3 applies to 16-bit output alone
--   output_ladder           rows 1, 2 and 3, lowest first, and then `go`; `stop` makes something of a refusal
--   buffer_ladder           rows 6 and 7 in the same way, of a buffer that is read and one that is written
use Rattle.std.specs.Prelude.{Bool, true, false, cond, not, ◌&&◌, ◌||◌, ℕ, ◌*◌, eqb, ltb}
use Rattle.h265.specs.Range.{is_size}
use Rattle.refusal.specs.declared.Refusal.{Refusal}
use Rattle.refusal.specs.declared.Refusal.TheVariants.{SizeInvalid, DepthInvalid, WidthTooNarrow, InputTooShort, OutputTooShort}

unfoldable pub size_refused : ℕ → Bool
size_refused n = not (is_size n)

unfoldable pub depth_refused : ℕ → Bool
depth_refused b = ltb b 8 || ltb 16 b

unfoldable pub width_refused : ℕ → Bool → Bool
width_refused b x = ltb 9 b || x

unfoldable pub list_refused : ℕ → Bool
list_refused len = not (eqb len 64)

unfoldable pub block_refused : ℕ → ℕ → Bool
block_refused n len = ltb len (n * n)

unfoldable pub rotation_refused : Bool → ℕ → Bool
rotation_refused t n = t && not (eqb n 4)

abbrev pub bits16 : Bool
bits16 = true

abbrev pub bits32 : Bool
bits32 = false

abbrev pub output_ladder : {A : Type 0} → (Refusal → A) → Bool → ℕ → ℕ → Bool → A → A
output_ladder stop narrow n b x go =
    cond (size_refused n) (stop SizeInvalid)
    (cond (depth_refused b) (stop DepthInvalid)
    (cond (narrow && width_refused b x) (stop WidthTooNarrow) go))

abbrev pub buffer_ladder : {A : Type 0} → (Refusal → A) → ℕ → ℕ → ℕ → A → A
buffer_ladder stop n read written go =
    cond (block_refused n read) (stop InputTooShort)
    (cond (block_refused n written) (stop OutputTooShort) go)
